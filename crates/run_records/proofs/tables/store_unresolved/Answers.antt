use native.Mathlib.Nat.{sub-zero}
use Rattle.archive.specs.Encode.{unresolved_bytes}
use Rattle.archive.proofs.Lengths.{wide-unresolved}
use Rattle.run_section.specs.Tables.{unresolved_in}
use Rattle.run_records.proofs.Turns.{all-stored, unresolved-next, kind-small, handle-small, unresolved-narrow}
use borrow.Author.Rules.{rules}
use Rattle.run_records.proofs.tables.store_unresolved.Goals as goal

pub loop-i-init : goal.loop-i-init
loop-i-init c = (search rules, search rules, search rules, search rules, rw sub-zero, rw sub-zero (search rules))

pub overflow_cast-kind : goal.overflow_cast-kind
overflow_cast-kind c = search (rules, kind-small)

pub overflow_cast-handle : goal.overflow_cast-handle
overflow_cast-handle c = search (rules, handle-small)

pub loop-i-preserved : goal.loop-i-preserved
loop-i-preserved c = (search rules, search rules, search rules, search rules, search (rules, unresolved-next), search (rules, unresolved-narrow))

pub returns : goal.returns
returns c = search (rules, all-stored 3 unresolved_in unresolved_bytes 13 wide-unresolved)
