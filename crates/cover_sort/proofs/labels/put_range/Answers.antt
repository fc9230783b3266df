use Rattle.cover_sort.proofs.labels.Joining.{range-put}
use Rattle.cover_sort.proofs.labels.put_range.Goals as goal

pub returns : goal.returns
returns c = search range-put
