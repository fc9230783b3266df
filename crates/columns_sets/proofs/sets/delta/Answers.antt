use Rattle.columns_sets.proofs.sets.SpanWrites.{down_fits, down_is, up_fits, up-sub, up_is}
use Rattle.columns_sets.proofs.sets.delta.Goals as goal

pub overflow_cast-result : goal.overflow_cast-result
overflow_cast-result c = search down_fits

pub returns-then-target-event : goal.returns-then-target-event
returns-then-target-event c = search down_is

pub overflow_cast-result-2 : goal.overflow_cast-result-2
overflow_cast-result-2 c = search up_fits

pub overflow_sub-result-2 : goal.overflow_sub-result-2
overflow_sub-result-2 c = search up-sub

pub returns : goal.returns
returns c = search up_is
