use native.Mathlib.Nat.{sub-zero}
use Rattle.run_records.proofs.Turns.{roots-done, root-next}
use borrow.Author.Rules.{rules}
use Rattle.run_records.proofs.tables.store_roots.Goals as goal

pub loop-i-init : goal.loop-i-init
loop-i-init c = (search rules, search rules, search rules, search rules, rw sub-zero)

pub loop-i-preserved : goal.loop-i-preserved
loop-i-preserved c = (search rules, search rules, search rules, search rules, search (rules, root-next))

pub returns : goal.returns
returns c = search (rules, roots-done)
