use Rattle.run.proofs.InTurn.{not-sheet, no-group, sheet-kept, sheet-counts, not-ordered, not-filled, then-once}
use Rattle.run.proofs.turns.is_writable.Goals as goal

pub returns-then-not-sheet_ok : goal.returns-then-not-sheet_ok
returns-then-not-sheet_ok c = search not-sheet

pub returns-then-s-lt1 : goal.returns-then-s-lt1
returns-then-s-lt1 c = search no-group

pub is_ordered-requires : goal.is_ordered-requires
is_ordered-requires c = search sheet-counts

pub returns-then-not-is_ordered : goal.returns-then-not-is_ordered
returns-then-not-is_ordered c = search not-ordered

pub is_filled-requires : goal.is_filled-requires
is_filled-requires c = search sheet-counts

pub returns-then-not-is_filled : goal.returns-then-not-is_filled
returns-then-not-is_filled c = search not-filled

pub is_once-requires : goal.is_once-requires
is_once-requires c = search sheet-kept

pub returns : goal.returns
returns c = search then-once
