use Rattle.archive_read.proofs.AtFiles.{file-fits, file-holds}
use Rattle.run_store.proofs.turns.Turns.{fewer-left, count-below, count-on}
use Rattle.run_store.proofs.rows.RowTurns.{rows_start, rows_none, rows-done, rows-room, rows_fit, rows_on}
use borrow.Author.Rules.{rules}
use Rattle.run_store.proofs.rows.grow_rows.Goals as goal

pub loop-p-init : goal.loop-p-init
loop-p-init c = (search rules, search rules, search rows_start)

pub add_rows-requires : goal.add_rows-requires
add_rows-requires c = (search file-holds, search rows-room)

pub overflow_add-c : goal.overflow_add-c
overflow_add-c c = search rows_fit

pub next-k-requires : goal.next-k-requires
next-k-requires c = search count-below

pub loop-p-smaller : goal.loop-p-smaller
loop-p-smaller c = search fewer-left

pub loop-p-preserved : goal.loop-p-preserved
loop-p-preserved c = (search file-fits, search count-on, search rows_on)

pub returns-after-loop-p : goal.returns-after-loop-p
returns-after-loop-p c = search rows-done

pub returns-in_default : goal.returns-in_default
returns-in_default c = search rows_none
