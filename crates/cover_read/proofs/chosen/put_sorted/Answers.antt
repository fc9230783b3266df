use Rattle.cover_read.proofs.chosen.Choosing.{chains-sorted}
use Rattle.cover_read.proofs.chosen.put_sorted.Goals as goal

pub returns : goal.returns
returns c = search chains-sorted
