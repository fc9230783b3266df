use Rattle.cover_copy.proofs.Copied.{fronts-same}
use Rattle.cover_copy.proofs.copy_links.Goals as goal

pub returns : goal.returns
returns c = search fronts-same
