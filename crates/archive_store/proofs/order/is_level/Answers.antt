use Rattle.std.proofs.Common.{rules}
use Rattle.archive_store.proofs.order.Turns.{level-done, level-falls, level-on, level-start}
use Rattle.archive_store.proofs.order.is_level.Goals as goal

pub loop-i-init : goal.loop-i-init
loop-i-init c = search (rules, level-start)

pub returns-then-x-low : goal.returns-then-x-low
returns-then-x-low c = search (rules, level-falls)

pub loop-i-preserved : goal.loop-i-preserved
loop-i-preserved c = search (rules, level-on)

pub returns : goal.returns
returns c = search (rules, level-done)
