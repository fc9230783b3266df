use Rattle.cover_read.proofs.links.Linked.{chosen-room, rows_in, chosen-count, chosen-written}
use borrow.Author.Rules.{rules}
use Rattle.cover_read.proofs.links.pick_chosen.Goals as goal

pub pick_links-requires-clause-n_in_bounds : goal.pick_links-requires-clause-n_in_bounds
pick_links-requires-clause-n_in_bounds c = (search rules, search rows_in)

pub pick_links-requires-clause-n_in_bounds_2 : goal.pick_links-requires-clause-n_in_bounds_2
pick_links-requires-clause-n_in_bounds_2 c = (search chosen-room, (search chosen-room, (search chosen-room, search chosen-room)))

pub returns-clause-value : goal.returns-clause-value
returns-clause-value c = search chosen-count

pub returns-clause-d_after : goal.returns-clause-d_after
returns-clause-d_after c = search chosen-written
