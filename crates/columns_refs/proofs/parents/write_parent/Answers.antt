use Rattle.columns_refs.proofs.Slots.{other-kind, named-target, named_none, named-number, none_written, none-next, one_written, one-next, target_room, number-room}
use Rattle.columns_refs.proofs.parents.write_parent.Goals as goal

pub returns-then-x-kind-clause-out_after : goal.returns-then-x-kind-clause-out_after
returns-then-x-kind-clause-out_after c = search (none_written, other-kind)

pub returns-then-x-kind-clause-value : goal.returns-then-x-kind-clause-value
returns-then-x-kind-clause-value c = search (none-next, other-kind)

pub bounds-out-at : goal.bounds-out-at
bounds-out-at c = search target_room

pub returns-then-x-eq3-clause-out_after : goal.returns-then-x-eq3-clause-out_after
returns-then-x-eq3-clause-out_after c = search (one_written, named-target)

pub returns-then-x-eq3-clause-value : goal.returns-then-x-eq3-clause-value
returns-then-x-eq3-clause-value c = search (one-next, named-target)

pub returns-then-x-eq0-clause-out_after : goal.returns-then-x-eq0-clause-out_after
returns-then-x-eq0-clause-out_after c = search (none_written, named_none)

pub returns-then-x-eq0-clause-value : goal.returns-then-x-eq0-clause-value
returns-then-x-eq0-clause-value c = search (none-next, named_none)

pub bounds-out-at-2 : goal.bounds-out-at-2
bounds-out-at-2 c = search number-room

pub returns-clause-out_after : goal.returns-clause-out_after
returns-clause-out_after c = search (one_written, named-number)

pub returns-clause-value : goal.returns-clause-value
returns-clause-value c = search (one-next, named-number)
