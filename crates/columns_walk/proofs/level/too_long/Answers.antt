use Rattle.columns_walk.proofs.level.Verdicts.{many-rows, long-list}
use Rattle.columns_walk.proofs.level.too_long.Goals as goal

pub returns-then-rows-gt1024 : goal.returns-then-rows-gt1024
returns-then-rows-gt1024 c = search many-rows

pub returns : goal.returns
returns c = search long-list
