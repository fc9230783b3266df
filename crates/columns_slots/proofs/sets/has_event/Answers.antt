use Rattle.columns_slots.proofs.sets.Turns.{row_number}
use Rattle.columns_slots.proofs.sets.has_event.Goals as goal

pub returns : goal.returns
returns c = search row_number
