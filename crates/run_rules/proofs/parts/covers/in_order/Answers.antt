use Rattle.run_rules.proofs.parts.CoverTurns.{order-start, order-done, order-bad, order-on}
use borrow.Author.Rules.{rules}
use Rattle.run_rules.proofs.parts.covers.in_order.Goals as goal

pub loop-i-init : goal.loop-i-init
loop-i-init c = (search rules, search rules, search order-start)

pub returns-then-greatest-least : goal.returns-then-greatest-least
returns-then-greatest-least c = search (rules, order-bad)

pub loop-i-preserved : goal.loop-i-preserved
loop-i-preserved c = search (rules, order-on)

pub returns : goal.returns
returns c = search (rules, order-done)
