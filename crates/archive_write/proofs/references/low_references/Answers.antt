use Rattle.archive_write.proofs.references.Asked.{by_size}
use Rattle.archive_write.proofs.references.low_references.Goals as goal

pub returns : goal.returns
returns c = search by_size
