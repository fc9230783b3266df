use Rattle.columns_slots.proofs.sets.Writes.{past_end}
use Rattle.columns_slots.proofs.sets.put.Goals as goal

pub returns-else-at-out : goal.returns-else-at-out
returns-else-at-out c = search past_end
