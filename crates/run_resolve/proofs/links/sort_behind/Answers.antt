-- Each column's part from k on starts with the sorted links.
use Rattle.run_resolve.proofs.links.SortedLinks.{sorted-behind}
use Rattle.run_resolve.proofs.links.sort_behind.Goals as goal

pub returns : goal.returns
returns c = search sorted-behind
