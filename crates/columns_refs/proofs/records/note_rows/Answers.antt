use borrow.Author.Rules.{rules}
use Rattle.columns_refs.proofs.Notes.{rows-begin, row-end, rows-room, rows_on, rows-done}
use Rattle.columns_refs.proofs.records.note_rows.Goals as goal

pub loop-r-init : goal.loop-r-init
loop-r-init c = (search rules, search rows-begin)

pub note_row-p-requires-clause-to_in_bounds : goal.note_row-p-requires-clause-to_in_bounds
note_row-p-requires-clause-to_in_bounds c = search row-end

pub note_row-p-requires-clause-records_room : goal.note_row-p-requires-clause-records_room
note_row-p-requires-clause-records_room c = search rows-room

pub loop-r-preserved : goal.loop-r-preserved
loop-r-preserved c = let from = c.index-from.ensures in
    let to = c.index-to.ensures in
    (search rules, rows_on _ _ _ _ c.requires.rows_form _ c.loop-r.invariant.1 c.loop-r-test.true _ _ from to _ _ _ _ c.note_row-p.ensures)

pub returns : goal.returns
returns c = search rows-done
