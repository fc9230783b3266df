use Rattle.archive_store.proofs.order.Turns.{level-done, level-falls, level-on, level-start}
use borrow.Author.Rules.{rules}
use Rattle.run_state.proofs.order.groups_level.Goals as goal

pub loop-i-init : goal.loop-i-init
loop-i-init c = search (rules, level-start)

pub returns-then-g-low : goal.returns-then-g-low
returns-then-g-low c = search (rules, level-falls)

pub loop-i-preserved : goal.loop-i-preserved
loop-i-preserved c = search (rules, level-on)

pub returns : goal.returns
returns c = search (rules, level-done)
