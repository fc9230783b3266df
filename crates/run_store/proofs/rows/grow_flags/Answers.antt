use Rattle.archive_read.proofs.AtFiles.{file-fits}
use Rattle.run_store.proofs.turns.Turns.{fewer-left, count-below, count-on}
use Rattle.run_store.proofs.rows.RowTurns.{rows-hold, flags-start, flags-none, flags-done, flags-room, flags-fit, flags-on}
use borrow.Author.Rules.{rules}
use Rattle.run_store.proofs.rows.grow_flags.Goals as goal

pub loop-p-init : goal.loop-p-init
loop-p-init c = (search rules, search rules, search flags-start)

pub add_flags-requires : goal.add_flags-requires
add_flags-requires c = (search rows-hold, search flags-room)

pub overflow_add-c : goal.overflow_add-c
overflow_add-c c = search flags-fit

pub next-k-requires : goal.next-k-requires
next-k-requires c = search count-below

pub loop-p-smaller : goal.loop-p-smaller
loop-p-smaller c = search fewer-left

pub loop-p-preserved : goal.loop-p-preserved
loop-p-preserved c = (search file-fits, search count-on, search flags-on)

pub returns-after-loop-p : goal.returns-after-loop-p
returns-after-loop-p c = search flags-done

pub returns-in_default : goal.returns-in_default
returns-in_default c = search flags-none
