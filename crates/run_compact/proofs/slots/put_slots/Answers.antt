-- The lists of the slots are the lists row by row.
use Rattle.run_renumber.proofs.Slots.{begins, same_after}
use Rattle.run_compact.proofs.slots.SlotTurns.{kept-built}
use borrow.Author.Rules.{rules}
use Rattle.run_compact.proofs.slots.put_slots.Goals as goal

pub add_slots-requires-clause-flags_in_bounds : goal.add_slots-requires-clause-flags_in_bounds
add_slots-requires-clause-flags_in_bounds c = (search rules, search rules)

pub add_slots-requires-clause-built : goal.add_slots-requires-clause-built
add_slots-requires-clause-built c = search begins

pub shape_of-offs : goal.shape_of-offs
shape_of-offs c = search (rules, same_after)

pub returns : goal.returns
returns c = search kept-built
