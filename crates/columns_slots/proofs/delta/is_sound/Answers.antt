use Rattle.columns_slots.proofs.delta.Signs.{sound_up, none_up, sound_down, none_down}
use Rattle.columns_slots.proofs.delta.is_sound.Goals as goal

pub returns-then-event-far : goal.returns-then-event-far
returns-then-event-far c = search sound_up

pub returns-then-delta-lt0 : goal.returns-then-delta-lt0
returns-then-delta-lt0 c = search none_up

pub returns-then-far-event : goal.returns-then-far-event
returns-then-far-event c = search sound_down

pub returns : goal.returns
returns c = search none_down
