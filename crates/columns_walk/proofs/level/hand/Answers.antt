use Rattle.columns_walk.proofs.level.Handed.{level-count, level_out}
use Rattle.columns_walk.proofs.level.hand.Goals as goal

pub returns-clause-value : goal.returns-clause-value
returns-clause-value c = search level-count

pub returns-clause-out_after : goal.returns-clause-out_after
returns-clause-out_after c = search level_out
