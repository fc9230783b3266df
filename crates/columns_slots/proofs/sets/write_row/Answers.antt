use borrow.Author.Rules.{rules}
use Rattle.columns_slots.proofs.sets.Rows.{row-event, row-order, row_within, row_fits, row_named, row_ends, row_written}
use Rattle.columns_slots.proofs.sets.write_row.Goals as goal

pub overflow_sub-to : goal.overflow_sub-to
overflow_sub-to c = search row-order

pub overflow_add-at : goal.overflow_add-at
overflow_add-at c = search row_fits

pub event-requires : goal.event-requires
event-requires c = search row-event

pub write_within-requires-clause-from_le_to : goal.write_within-requires-clause-from_le_to
write_within-requires-clause-from_le_to c = (search row-order, (search row_within, (search rules, search rules)))

pub write_within-requires-clause-deltas_value : goal.write_within-requires-clause-deltas_value
write_within-requires-clause-deltas_value c = search row_named

pub returns-then-at-to-clause-value : goal.returns-then-at-to-clause-value
returns-then-at-to-clause-value c = search row_ends

pub returns-then-at-to-clause-out_after : goal.returns-then-at-to-clause-out_after
returns-then-at-to-clause-out_after c = search row_written

pub event-requires-2 : goal.event-requires-2
event-requires-2 c = search row-event

pub write_targets-requires-clause-from_le_to : goal.write_targets-requires-clause-from_le_to
write_targets-requires-clause-from_le_to c = (search row-order, (search row_within, (search rules, search rules)))

pub write_targets-requires-clause-deltas_value : goal.write_targets-requires-clause-deltas_value
write_targets-requires-clause-deltas_value c = search row_named

pub returns-clause-value : goal.returns-clause-value
returns-clause-value c = search row_ends

pub returns-clause-out_after : goal.returns-clause-out_after
returns-clause-out_after c = search row_written
