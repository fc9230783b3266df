use Rattle.run.proofs.InTurn.{not-held, held-counts, held-order}
use Rattle.run.proofs.turns.is_holdable.Goals as goal

pub returns-then-not-ok : goal.returns-then-not-ok
returns-then-not-ok c = search not-held

pub is_ordered-requires : goal.is_ordered-requires
is_ordered-requires c = search held-counts

pub returns : goal.returns
returns c = search held-order
