use Rattle.arrays.proofs.table.Chains.{bucket-below, bucket-is}
use Rattle.arrays.proofs.table.bucket.Goals as goal

pub returns : goal.returns
returns c = (search bucket-below, search bucket-is)
