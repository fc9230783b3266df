use Rattle.run_state.proofs.order.Turns.{reach-done, reach-next, reach-on}
use borrow.Author.Rules.{rules}
use Rattle.run_state.proofs.order.reaches_all.Goals as goal
use Rattle.run_state.proofs.order.reaches_all.Goals.{then-from-seen, else-from-seen}

pub loop-i-preserved : goal.loop-i-preserved
loop-i-preserved c = elim c.if-from-seen.branch [ then-from-seen w ↦ search (rules, reach-next) | else-from-seen w ↦ search (rules, reach-on) ]

pub returns : goal.returns
returns c = search (rules, reach-done)
