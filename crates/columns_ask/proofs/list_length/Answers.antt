use Rattle.columns_ask.proofs.Found.{an-offset, none-without, none_below, none-past, next-in, slot_in, slot-rises, slot-length}
use Rattle.columns_ask.proofs.list_length.Goals as goal

pub returns-then-s-eq0 : goal.returns-then-s-eq0
returns-then-s-eq0 c = search none-without

pub returns-then-number-first : goal.returns-then-number-first
returns-then-number-first c = search none_below

pub returns-then-s-width : goal.returns-then-s-width
returns-then-s-width c = search none-past

pub bounds-s-slot : goal.bounds-s-slot
bounds-s-slot c = search next-in

pub bounds-s-slot-2 : goal.bounds-s-slot-2
bounds-s-slot-2 c = search slot_in

pub overflow_sub-result : goal.overflow_sub-result
overflow_sub-result c = search slot-rises

pub returns : goal.returns
returns c = search slot-length

pub overflow_sub-s : goal.overflow_sub-s
overflow_sub-s c = search an-offset
