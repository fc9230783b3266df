use Rattle.columns_rules.proofs.spans.SpanTurns.{span-down, span-up}
use Rattle.columns_rules.proofs.spans.reach.span_fits.Goals as goal

pub returns-then-target-event : goal.returns-then-target-event
returns-then-target-event c = search span-down

pub returns : goal.returns
returns c = search span-up
