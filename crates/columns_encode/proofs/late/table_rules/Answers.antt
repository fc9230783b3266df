use Rattle.lists.proofs.Slices.{prefix-count}
use Rattle.columns_encode.proofs.Later.{given-twice, then-spans}
use borrow.Author.Rules.{rules}
use Rattle.columns_encode.proofs.late.table_rules.Goals as goal

pub slice_bounds-no_repeats-end : goal.slice_bounds-no_repeats-end
slice_bounds-no_repeats-end c = search (rules, prefix-count)

pub slice_bounds-no_repeats-end-2 : goal.slice_bounds-no_repeats-end-2
slice_bounds-no_repeats-end-2 c = search (rules, prefix-count)

pub returns-then-not-no_repeats : goal.returns-then-not-no_repeats
returns-then-not-no_repeats c = search given-twice

pub slice_bounds-span_rules-end : goal.slice_bounds-span_rules-end
slice_bounds-span_rules-end c = search (rules, prefix-count)

pub slice_bounds-span_rules-end-2 : goal.slice_bounds-span_rules-end-2
slice_bounds-span_rules-end-2 c = search (rules, prefix-count)

pub span_rules-requires-clause-rows_bound : goal.span_rules-requires-clause-rows_bound
span_rules-requires-clause-rows_bound c = (search rules, search rules)

pub returns : goal.returns
returns c = search then-spans
