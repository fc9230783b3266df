use Rattle.archive_read.proofs.AtFiles.{file-fits}
use Rattle.run_store.proofs.turns.Turns.{fewer-left, count-below, count-on}
use Rattle.run_store.proofs.records.RecordTurns.{roots-start, roots-none, roots-done, roots-hold, roots-room, rows_few, roots-inside, roots-fit, rows_fit, roots-on}
use borrow.Author.Rules.{rules}
use Rattle.run_store.proofs.records.grow_roots.Goals as goal

pub loop-p-init : goal.loop-p-init
loop-p-init c = (search rules, search rules, search roots-start)

pub add_roots-requires-clause-holds : goal.add_roots-requires-clause-holds
add_roots-requires-clause-holds c = (search roots-hold, (search roots-room, search rows_few))

pub add_roots-requires-clause-small : goal.add_roots-requires-clause-small
add_roots-requires-clause-small c = search roots-inside

pub overflow_add-c : goal.overflow_add-c
overflow_add-c c = search roots-fit

pub overflow_add-n : goal.overflow_add-n
overflow_add-n c = search rows_fit

pub next-k-requires : goal.next-k-requires
next-k-requires c = search count-below

pub loop-p-smaller : goal.loop-p-smaller
loop-p-smaller c = search fewer-left

pub loop-p-preserved : goal.loop-p-preserved
loop-p-preserved c = (search file-fits, search count-on, search roots-on)

pub returns-after-loop-p : goal.returns-after-loop-p
returns-after-loop-p c = search roots-done

pub returns-in_default : goal.returns-in_default
returns-in_default c = search roots-none
