use Rattle.run.proofs.InTurn.{not-resolved, not-holdable, resolved-if}
use Rattle.run.proofs.turns.is_resolved.Goals as goal

pub returns-then-phase-ne1 : goal.returns-then-phase-ne1
returns-then-phase-ne1 c = search not-resolved

pub returns-then-not-holds : goal.returns-then-not-holds
returns-then-not-holds c = search not-holdable

pub returns : goal.returns
returns c = search resolved-if
