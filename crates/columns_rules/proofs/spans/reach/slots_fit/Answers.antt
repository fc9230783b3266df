use Rattle.columns_rules.proofs.spans.SpanTurns.{gran-done, gran-far, gran-on, deltas-slots}
use borrow.Author.Rules.{rules}
use Rattle.columns_rules.proofs.spans.reach.slots_fit.Goals as goal

pub loop-q-init : goal.loop-q-init
loop-q-init c = search (rules, deltas-slots)

pub returns-then-not-slot_fits : goal.returns-then-not-slot_fits
returns-then-not-slot_fits c = search (rules, gran-far)

pub loop-q-preserved : goal.loop-q-preserved
loop-q-preserved c = search (rules, gran-on)

pub returns : goal.returns
returns c = search (rules, gran-done)
