use Rattle.columns_ask.proofs.Found.{empty-ends, empty-put, in-granule, row_fits, slot-fits, there, there-event, there-edged, list-ends, list_put}
use borrow.Author.Rules.{rules}
use Rattle.columns_ask.proofs.write_list.Goals as goal

pub returns-then-list_length-eq0-clause-value : goal.returns-then-list_length-eq0-clause-value
returns-then-list_length-eq0-clause-value c = search empty-ends

pub returns-then-list_length-eq0-clause-out_after : goal.returns-then-list_length-eq0-clause-out_after
returns-then-list_length-eq0-clause-out_after c = search empty-put

pub overflow_sub-slot : goal.overflow_sub-slot
overflow_sub-slot c = search in-granule

pub overflow_mul-slot : goal.overflow_mul-slot
overflow_mul-slot c = search row_fits

pub overflow_add-slot : goal.overflow_add-slot
overflow_add-slot c = search slot-fits

pub write_slot-requires-clause-slot_in_bounds : goal.write_slot-requires-clause-slot_in_bounds
write_slot-requires-clause-slot_in_bounds c = (search there, (search there-event, search rules))

pub write_slot-requires-clause-edged : goal.write_slot-requires-clause-edged
write_slot-requires-clause-edged c = search there-edged

pub returns-clause-value : goal.returns-clause-value
returns-clause-value c = search list-ends

pub returns-clause-out_after : goal.returns-clause-out_after
returns-clause-out_after c = search list_put
