use Rattle.columns_rules.proofs.spans.SpanOrder.{granule-within, rows-past, rows-over, forward-far, inbound-far, spans-kept}
use borrow.Author.Rules.{rules}
use Rattle.columns_rules.proofs.spans.groups.span_rules.Goals as goal

pub returns-then-rows-from : goal.returns-then-rows-from
returns-then-rows-from c = search rows-past

pub returns-then-rows-from-2 : goal.returns-then-rows-from-2
returns-then-rows-from-2 c = search rows-over

pub slots_fit-requires-clause-rows_bound : goal.slots_fit-requires-clause-rows_bound
slots_fit-requires-clause-rows_bound c = (search rules, (search rules, search granule-within))

pub returns-then-not-slots_fit : goal.returns-then-not-slots_fit
returns-then-not-slots_fit c = search forward-far

pub slots_fit-requires-2-clause-rows_bound : goal.slots_fit-requires-2-clause-rows_bound
slots_fit-requires-2-clause-rows_bound c = (search rules, (search rules, search granule-within))

pub returns-then-not-slots_fit-2 : goal.returns-then-not-slots_fit-2
returns-then-not-slots_fit-2 c = search inbound-far

pub returns : goal.returns
returns c = search spans-kept
