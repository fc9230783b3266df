-- What is copied is the slot's list, one more of the table.
use Rattle.run_compact.proofs.slots.SlotTurns.{slot-ordered, slot-within, slot-fits, slot-below, slot-put}
use Rattle.run_compact.proofs.slots.add_slot.Goals as goal

pub append-m-requires : goal.append-m-requires
append-m-requires c = (search slot-ordered, (search slot-within, search slot-fits))

pub returns : goal.returns
returns c = (search slot-below, search slot-put)
