use Rattle.std.proofs.Common.{rules}
use Rattle.archive_store.proofs.order.Turns.{rise-done, rise-stops, rise-on}
use Rattle.archive_store.proofs.order.rises_from.Goals as goal

pub returns-then-x-low : goal.returns-then-x-low
returns-then-x-low c = search (rules, rise-stops)

pub loop-i-preserved : goal.loop-i-preserved
loop-i-preserved c = search (rules, rise-on)

pub returns : goal.returns
returns c = search (rules, rise-done)
