use Rattle.columns_read.proofs.ThreeSets.{three-counted}
use Rattle.columns_read.proofs.write_granule.Goals as goal

pub returns-clause-value : goal.returns-clause-value
returns-clause-value c = search three-counted
