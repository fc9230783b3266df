use native.Mathlib.Nat.{sub-zero}
use Rattle.archive_bytes.proofs.number_columns.Turns.{still-fits, all-stored, one-stored}
use borrow.Author.Rules.{rules}
use Rattle.archive_bytes.proofs.number_columns.store_all.Goals as goal

pub loop-i-init : goal.loop-i-init
loop-i-init g c = rw sub-zero (search rules, search rules, search rules, search rules)

pub loop-i-preserved : goal.loop-i-preserved
loop-i-preserved g c = (search rules, search (rules, still-fits), search rules, search (rules, one-stored))

pub returns : goal.returns
returns g c = search (rules, all-stored)
