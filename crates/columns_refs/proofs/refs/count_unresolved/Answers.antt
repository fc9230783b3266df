use borrow.Author.Rules.{rules}
use Rattle.columns_refs.proofs.Counted.{counted-all, counted-one, counted_none}
use Rattle.columns_refs.proofs.refs.count_unresolved.Goals as goal
use Rattle.columns_refs.proofs.refs.count_unresolved.Goals.{then-is_unresolved, else-is_unresolved}

pub loop-i-preserved : goal.loop-i-preserved
loop-i-preserved c = elim c.if-is_unresolved.branch [
  | then-is_unresolved w ↦ (search rules, search rules, search counted-one)
  | else-is_unresolved w ↦ (search rules, search rules, search counted_none)
]

pub returns : goal.returns
returns c = search counted-all
