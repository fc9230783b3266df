use Rattle.columns_slots.proofs.delta.Signs.{fits-up, stands_up, within_down, stands_down}
use Rattle.columns_slots.proofs.delta.target.Goals as goal

pub overflow_add-result : goal.overflow_add-result
overflow_add-result c = search fits-up

pub returns-then-delta-lt0 : goal.returns-then-delta-lt0
returns-then-delta-lt0 c = search stands_up

pub overflow_sub-result : goal.overflow_sub-result
overflow_sub-result c = search within_down

pub returns : goal.returns
returns c = search stands_down
