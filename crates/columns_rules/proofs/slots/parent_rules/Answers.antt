use Rattle.columns_rules.proofs.ParentTurns.{parents-done, parent-late, parent-again, parents-on, none_yet}
use borrow.Author.Rules.{rules}
use Rattle.columns_rules.proofs.slots.parent_rules.Goals as goal

pub loop-j-init : goal.loop-j-init
loop-j-init c = search (rules, none_yet)

pub returns-then-event-p : goal.returns-then-event-p
returns-then-event-p c = search (rules, parent-late)

pub returns-then-among : goal.returns-then-among
returns-then-among c = search (rules, parent-again)

pub loop-j-preserved : goal.loop-j-preserved
loop-j-preserved c = search (rules, parents-on)

pub returns : goal.returns
returns c = search (rules, parents-done)
