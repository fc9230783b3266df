-- The lists keep 4 and 5, and the table that is made of them reads back.
use Rattle.run_section.proofs.prepare.Turning.{offsets-there, offsets-count, targets-there, targets-count, targets-few, lists-form, lists-once, kids_room, children-put}
use borrow.Author.Rules.{rules}
use Rattle.run_section.proofs.prepare.put_children.Goals as goal

pub slice_bounds-offsets-end : goal.slice_bounds-offsets-end
slice_bounds-offsets-end c = search (rules, offsets-there)

pub slice_bounds-turn-end : goal.slice_bounds-turn-end
slice_bounds-turn-end c = search (rules, offsets-count)

pub slice_bounds-targets-end : goal.slice_bounds-targets-end
slice_bounds-targets-end c = search (rules, targets-there)

pub slice_bounds-turn-end-2 : goal.slice_bounds-turn-end-2
slice_bounds-turn-end-2 c = search (rules, targets-count)

pub turn-requires-clause-rows_bound : goal.turn-requires-clause-rows_bound
turn-requires-clause-rows_bound c = (search rules, (search (rules, targets-few), search rules))

pub turn-requires-clause-offsets_value : goal.turn-requires-clause-offsets_value
turn-requires-clause-offsets_value c = search (rules, lists-form)

pub turn-requires-clause-targets_value : goal.turn-requires-clause-targets_value
turn-requires-clause-targets_value c = search (rules, lists-once)

pub turn-requires-clause-rows_in_bounds : goal.turn-requires-clause-rows_in_bounds
turn-requires-clause-rows_in_bounds c = (search rules, search (rules, kids_room))

pub returns : goal.returns
returns c = search (rules, children-put)
