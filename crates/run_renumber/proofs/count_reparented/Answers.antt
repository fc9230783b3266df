use borrow.Author.Rules.{rules}
use Rattle.run_renumber.proofs.Erased.{count-begins, count-ends, counted, passed}
use Rattle.run_renumber.proofs.Tables.{form-length}
use Rattle.run_renumber.proofs.count_reparented.Goals as goal
use Rattle.run_renumber.proofs.count_reparented.Goals.{then-is_reparented, else-is_reparented}

pub loop-i-init : goal.loop-i-init
loop-i-init c = (search rules, search rules, search count-begins)

pub is_reparented-requires-clause-i_in_bounds : goal.is_reparented-requires-clause-i_in_bounds
is_reparented-requires-clause-i_in_bounds c = (search rules, search form-length)

pub loop-i-preserved : goal.loop-i-preserved
loop-i-preserved c = elim c.if-is_reparented.branch [
  | then-is_reparented w ↦ (search rules, search rules, search (rules, counted))
  | else-is_reparented w ↦ (search rules, search rules, search (rules, passed))
]

pub returns : goal.returns
returns c = search count-ends
