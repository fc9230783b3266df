use Rattle.archive_read.proofs.AtFiles.{file-fits}
use Rattle.run_store.proofs.turns.Turns.{fewer-left, count-below, count-on}
use Rattle.run_store.proofs.records.RecordTurns.{unresolved-start, unresolved-none, unresolved-done, unresolved-holds, unresolved-room, unresolved-fit, unresolved-on}
use borrow.Author.Rules.{rules}
use Rattle.run_store.proofs.records.grow_unresolved.Goals as goal

pub loop-p-init : goal.loop-p-init
loop-p-init c = (search rules, search rules, search unresolved-start)

pub add_unresolved-requires : goal.add_unresolved-requires
add_unresolved-requires c = (search unresolved-holds, search unresolved-room)

pub overflow_add-c : goal.overflow_add-c
overflow_add-c c = search unresolved-fit

pub next-k-requires : goal.next-k-requires
next-k-requires c = search count-below

pub loop-p-smaller : goal.loop-p-smaller
loop-p-smaller c = search fewer-left

pub loop-p-preserved : goal.loop-p-preserved
loop-p-preserved c = (search file-fits, search count-on, search unresolved-on)

pub returns-after-loop-p : goal.returns-after-loop-p
returns-after-loop-p c = search unresolved-done

pub returns-in_default : goal.returns-in_default
returns-in_default c = search unresolved-none
