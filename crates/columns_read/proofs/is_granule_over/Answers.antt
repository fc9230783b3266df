use Rattle.columns_read.proofs.ThreeSets.{four-over, others-over}
use Rattle.columns_read.proofs.is_granule_over.Goals as goal

pub returns-then-is_any_over : goal.returns-then-is_any_over
returns-then-is_any_over c = search four-over

pub returns : goal.returns
returns c = search others-over
