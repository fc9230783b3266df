-- A number of the run is the number of a row.
use Rattle.run_resolve.proofs.SurvivorColumns.{flags-room, count-flags}
use Rattle.run_resolve.proofs.OldNumbers.{flags-few, flags-end, row_here, mapped-before, mapped-past, mapped-row}
use Rattle.run_resolve.proofs.asked.new_number.Goals as goal

pub returns-then-old-start : goal.returns-then-old-start
returns-then-old-start c = search mapped-before

pub returns-then-n-i : goal.returns-then-n-i
returns-then-n-i c = search mapped-past

pub slice_bounds-f-end : goal.slice_bounds-f-end
slice_bounds-f-end c = search flags-room

pub slice_bounds-row_number-end : goal.slice_bounds-row_number-end
slice_bounds-row_number-end c = search count-flags

pub row_number-requires : goal.row_number-requires
row_number-requires c = (search row_here, (search flags-few, search flags-end))

pub returns : goal.returns
returns c = search mapped-row
