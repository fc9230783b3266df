use Rattle.columns.proofs.Within.{under, from_low}
use Rattle.columns.proofs.between.is_between.Goals as goal

pub returns-then-x-low : goal.returns-then-x-low
returns-then-x-low c = search under

pub returns : goal.returns
returns c = search from_low
