use Rattle.columns_refs.proofs.Notes.{noting-begins, row_room, row_on, row_done}
use Rattle.columns_refs.proofs.records.note_row.Goals as goal

pub loop-i-init : goal.loop-i-init
loop-i-init c = search noting-begins

pub note-p-requires : goal.note-p-requires
note-p-requires c = search row_room

pub loop-i-preserved : goal.loop-i-preserved
loop-i-preserved c = let x = c.reference_at-x.ensures in
    row_on _ _ _ _ c.loop-i.invariant
    c.loop-i-test.true
    c.requires.to_in_bounds _ x _ _ _ _ c.note-p.ensures

pub returns : goal.returns
returns c = search row_done
