-- Sorted links are no more than there were.
use Rattle.run_resolve.proofs.links.SortedLinks.{part_room, part-fits, part-few, links-added}
use borrow.Author.Rules.{rules}
use Rattle.run_resolve.proofs.links.add_group.Goals as goal

pub fill-requires : goal.fill-requires
fill-requires c = (search part_room, search rules)

pub overflow_add-result : goal.overflow_add-result
overflow_add-result c = search part-fits

pub returns-clause-upper_bound : goal.returns-clause-upper_bound
returns-clause-upper_bound c = search part-few

pub returns-clause-result_after : goal.returns-clause-result_after
returns-clause-result_after c = search links-added
