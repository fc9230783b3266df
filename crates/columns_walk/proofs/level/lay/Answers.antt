use Rattle.columns_walk.proofs.level.Handed.{laid-count, laid_out}
use Rattle.columns_walk.proofs.level.lay.Goals as goal

pub returns-clause-value : goal.returns-clause-value
returns-clause-value c = search laid-count

pub returns-clause-out_after : goal.returns-clause-out_after
returns-clause-out_after c = search laid_out
