use Rattle.run_resolve.proofs.links.SortedLinks.{part-sorted}
use Rattle.run_resolve.proofs.links.sort_part.Goals as goal

pub returns : goal.returns
returns c = let asked = c.requires in
    let sorted = c.sort_behind.ensures in
    search part-sorted
