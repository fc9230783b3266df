use Rattle.archive_read.proofs.AtFiles.{file-fits}
use Rattle.run_store.proofs.turns.Turns.{fewer-left, count-below, count-on}
use Rattle.run_store.proofs.sets.SetTurns.{side-start, side-none, side-done, set_holds, set_room, numbers_fit, rows_fit, side-on}
use borrow.Author.Rules.{rules}
use Rattle.run_store.proofs.sets.grow_set.Goals as goal

pub loop-p-init : goal.loop-p-init
loop-p-init c = (search rules, search rules, search side-start)

pub add_set-requires-clause-holds : goal.add_set-requires-clause-holds
add_set-requires-clause-holds c = search set_holds

pub add_set-requires-clause-set_room : goal.add_set-requires-clause-set_room
add_set-requires-clause-set_room c = search set_room

pub overflow_add-c : goal.overflow_add-c
overflow_add-c c = search numbers_fit

pub overflow_add-n : goal.overflow_add-n
overflow_add-n c = search rows_fit

pub next-k-requires : goal.next-k-requires
next-k-requires c = search count-below

pub loop-p-smaller : goal.loop-p-smaller
loop-p-smaller c = search fewer-left

pub loop-p-preserved : goal.loop-p-preserved
loop-p-preserved c = (search file-fits, search count-on, search side-on)

pub returns-after-loop-p : goal.returns-after-loop-p
returns-after-loop-p c = search side-done

pub returns-in_default : goal.returns-in_default
returns-in_default c = search side-none
