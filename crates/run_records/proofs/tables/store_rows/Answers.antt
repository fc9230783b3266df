use native.Mathlib.Nat.{sub-zero}
use Rattle.archive.specs.Encode.{row_bytes}
use Rattle.archive.proofs.Lengths.{wide_row}
use Rattle.run_records.specs.Stored.{row_in}
use Rattle.run_records.proofs.Turns.{all-stored, row_next}
use borrow.Author.Rules.{rules}
use Rattle.run_records.proofs.tables.store_rows.Goals as goal

pub loop-i-init : goal.loop-i-init
loop-i-init c = (search rules, search rules, search rules, search rules, rw sub-zero)

pub loop-i-preserved : goal.loop-i-preserved
loop-i-preserved c = (search rules, search rules, search rules, search rules, search (rules, row_next))

pub returns : goal.returns
returns c = search (rules, all-stored 4 row_in row_bytes 9 wide_row)
