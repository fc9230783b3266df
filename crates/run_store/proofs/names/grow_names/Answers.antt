use Rattle.archive_read.proofs.AtFiles.{file-fits}
use Rattle.run_store.proofs.turns.Turns.{fewer-left, count-below, count-on}
use Rattle.run_store.proofs.names.NameTurns.{names-start, names-none, names-done, names-room, names-on}
use borrow.Author.Rules.{rules}
use Rattle.run_store.proofs.names.grow_names.Goals as goal

pub loop-p-init : goal.loop-p-init
loop-p-init c = (search rules, search rules, search names-start)

pub add_names-q-requires : goal.add_names-q-requires
add_names-q-requires c = search names-room

pub next-k-requires : goal.next-k-requires
next-k-requires c = search count-below

pub loop-p-smaller : goal.loop-p-smaller
loop-p-smaller c = search fewer-left

pub loop-p-preserved : goal.loop-p-preserved
loop-p-preserved c = (search file-fits, search count-on, search names-on)

pub returns-after-loop-p : goal.returns-after-loop-p
returns-after-loop-p c = search names-done

pub returns-in_default : goal.returns-in_default
returns-in_default c = search names-none
