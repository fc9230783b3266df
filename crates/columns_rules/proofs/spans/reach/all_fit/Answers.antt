use Rattle.columns_rules.proofs.spans.SpanTurns.{spans-done, span-far, spans_on}
use borrow.Author.Rules.{rules}
use Rattle.columns_rules.proofs.spans.reach.all_fit.Goals as goal

pub returns-then-not-span_fits : goal.returns-then-not-span_fits
returns-then-not-span_fits c = search (rules, span-far)

pub loop-j-preserved : goal.loop-j-preserved
loop-j-preserved c = search (rules, spans_on)

pub returns : goal.returns
returns c = search (rules, spans-done)
