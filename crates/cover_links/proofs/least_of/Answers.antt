use Rattle.std.proofs.Common.{rules}
use Rattle.cover_links.specs.Links.{least}
use Rattle.cover_links.proofs.least_of.Goals as goal

pub returns : goal.returns
unfolding least
returns c = search rules
