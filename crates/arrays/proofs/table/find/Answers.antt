use Rattle.arrays.proofs.table.Chains.{found-there}
use Rattle.arrays.proofs.table.find.Goals as goal

pub returns : goal.returns
returns c = search found-there
