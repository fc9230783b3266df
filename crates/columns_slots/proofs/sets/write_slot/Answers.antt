use borrow.Author.Rules.{rules}
use Rattle.columns.proofs.Targets.{slot_order, slot_inside, slot-named}
use Rattle.columns_slots.proofs.sets.Writes.{slot-ends, slot-written}
use Rattle.columns_slots.proofs.sets.write_slot.Goals as goal

pub write_targets-requires-clause-from_le_to : goal.write_targets-requires-clause-from_le_to
write_targets-requires-clause-from_le_to c = (search slot_order, (search slot_inside, (search rules, search rules)))

pub write_targets-requires-clause-deltas_value : goal.write_targets-requires-clause-deltas_value
write_targets-requires-clause-deltas_value c = search slot-named

pub returns-clause-value : goal.returns-clause-value
returns-clause-value c = search slot-ends

pub returns-clause-out_after : goal.returns-clause-out_after
returns-clause-out_after c = search slot-written
