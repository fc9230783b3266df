use Rattle.run.proofs.InTurn.{other-phase, taking-if}
use Rattle.run.proofs.turns.is_taking.Goals as goal

pub returns-then-phase-ne0 : goal.returns-then-phase-ne0
returns-then-phase-ne0 c = search other-phase

pub returns : goal.returns
returns c = search taking-if
