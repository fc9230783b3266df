use Rattle.columns_slots.proofs.sets.Turns.{no-offsets, part-row, other-rows, starts-late, then-climbs}
use Rattle.columns_slots.proofs.sets.is_form.Goals as goal

pub returns-then-offsets-eq0 : goal.returns-then-offsets-eq0
returns-then-offsets-eq0 c = search no-offsets

pub returns-then-slots-width-ne0 : goal.returns-then-slots-width-ne0
returns-then-slots-width-ne0 c = search part-row

pub returns-then-slots-width : goal.returns-then-slots-width
returns-then-slots-width c = search other-rows

pub returns-then-offsets-ne0 : goal.returns-then-offsets-ne0
returns-then-offsets-ne0 c = search starts-late

pub returns : goal.returns
returns c = search then-climbs
