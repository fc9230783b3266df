use Rattle.columns_slots.proofs.delta.Signs.{forward-side, reverse-low, reverse-side, inbound-side}
use Rattle.columns_slots.proofs.delta.is_allowed.Goals as goal

pub returns-then-set-eq0 : goal.returns-then-set-eq0
returns-then-set-eq0 c = search forward-side

pub returns-then-target-event : goal.returns-then-target-event
returns-then-target-event c = search reverse-low

pub returns-then-set-eq1 : goal.returns-then-set-eq1
returns-then-set-eq1 c = search reverse-side

pub returns : goal.returns
returns c = search inbound-side
