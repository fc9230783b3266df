-- The table of no list is the one offset 0.
use lib.Seq.{lt-length-set}
use borrow.Author.Rules.{rules}
use Rattle.lists.proofs.Slices.{prefix-count}
use Rattle.run_renumber.proofs.Slots.{begins, lists_named, same_after}
use Rattle.run_renumber.proofs.put_lists.Goals as goal

pub slice_bounds-add_slots-end : goal.slice_bounds-add_slots-end
slice_bounds-add_slots-end c = search (rules, prefix-count)

pub add_slots-requires-clause-flags_in_bounds : goal.add_slots-requires-clause-flags_in_bounds
add_slots-requires-clause-flags_in_bounds c = search lt-length-set

pub add_slots-requires-clause-built : goal.add_slots-requires-clause-built
add_slots-requires-clause-built c = search begins

pub shape_of-offs : goal.shape_of-offs
shape_of-offs c = search (rules, same_after)

pub returns : goal.returns
returns c = search lists_named
