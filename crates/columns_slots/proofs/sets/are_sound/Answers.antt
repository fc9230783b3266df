use borrow.Author.Rules.{rules}
use Rattle.columns_slots.proofs.sets.Rows.{row_next, rows-done, rows-stop, rows_on}
use Rattle.columns_slots.proofs.sets.are_sound.Goals as goal

pub is_row_sound-requires-clause-width_in_bounds : goal.is_row_sound-requires-clause-width_in_bounds
is_row_sound-requires-clause-width_in_bounds c = (search row_next, search rules)

pub returns-then-not-is_row_sound : goal.returns-then-not-is_row_sound
returns-then-not-is_row_sound c = search rows-stop

pub loop-row-preserved : goal.loop-row-preserved
loop-row-preserved c = search (rules, row_next, rows_on)

pub returns : goal.returns
returns c = search rows-done
