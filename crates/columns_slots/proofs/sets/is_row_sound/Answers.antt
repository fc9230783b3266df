use Rattle.columns_slots.proofs.sets.Rows.{row-climbs, row_cut, row_inside}
use Rattle.columns_slots.proofs.sets.Turns.{no-event, an-event, deltas-tell}
use Rattle.columns_slots.proofs.sets.is_row_sound.Goals as goal

pub returns-then-not-has_event : goal.returns-then-not-has_event
returns-then-not-has_event c = search no-event

pub event-requires : goal.event-requires
event-requires c = search an-event

pub all_sound-requires : goal.all_sound-requires
all_sound-requires c = (search row-climbs, search row_inside)

pub returns : goal.returns
returns c = search (deltas-tell, row_cut)
