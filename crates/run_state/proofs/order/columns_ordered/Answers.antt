use Rattle.run_state.proofs.order.Turns.{rows-unordered, links-unordered, roots-unordered, all-ordered}
use Rattle.run_state.proofs.order.columns_ordered.Goals as goal

pub returns-then-not-groups_ordered : goal.returns-then-not-groups_ordered
returns-then-not-groups_ordered c = search rows-unordered

pub returns-then-not-groups_ordered-2 : goal.returns-then-not-groups_ordered-2
returns-then-not-groups_ordered-2 c = search links-unordered

pub returns-then-not-rises : goal.returns-then-not-rises
returns-then-not-rises c = search roots-unordered

pub returns : goal.returns
returns c = search all-ordered
