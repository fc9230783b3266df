use Rattle.archive_read.proofs.AtFiles.{file-fits}
use Rattle.run_store.proofs.turns.Turns.{fewer-left, count-below, count-on}
use Rattle.run_store.proofs.links.LinkTurns.{links-start, no-links, links-done, links-hold, links-sums, links-uncovers, links-room, links-rows, links-ranges, links-fit, links-on}
use borrow.Author.Rules.{rules}
use Rattle.run_store.proofs.links.grow_links.Goals as goal

pub loop-p-init : goal.loop-p-init
loop-p-init c = (search rules, search rules, search links-start)

pub add_links-requires-clause-holds_tail : goal.add_links-requires-clause-holds_tail
add_links-requires-clause-holds_tail c = (search links-hold, (search links-sums, search links-uncovers))

pub add_links-requires-clause-links_bound : goal.add_links-requires-clause-links_bound
add_links-requires-clause-links_bound c = (search links-room, (search links-rows, search links-ranges))

pub overflow_add-c : goal.overflow_add-c
overflow_add-c c = search links-fit

pub next-k-requires : goal.next-k-requires
next-k-requires c = search count-below

pub loop-p-smaller : goal.loop-p-smaller
loop-p-smaller c = search fewer-left

pub loop-p-preserved : goal.loop-p-preserved
loop-p-preserved c = (search file-fits, search count-on, search links-on)

pub returns-after-loop-p : goal.returns-after-loop-p
returns-after-loop-p c = search links-done

pub returns-in_default : goal.returns-in_default
returns-in_default c = search no-links
