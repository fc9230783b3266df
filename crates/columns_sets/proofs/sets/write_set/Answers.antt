use Rattle.columns_sets.proofs.sets.WholeSets.{low-in, high-in, low-high, set-counted, starts-written, deltas-written}
use Rattle.columns_sets.proofs.sets.write_set.Goals as goal

pub bounds-offsets-from : goal.bounds-offsets-from
bounds-offsets-from c = search low-in

pub bounds-offsets-from-2 : goal.bounds-offsets-from-2
bounds-offsets-from-2 c = search high-in

pub overflow_sub-result : goal.overflow_sub-result
overflow_sub-result c = search low-high

pub returns-clause-value : goal.returns-clause-value
returns-clause-value c = search set-counted

pub returns-clause-starts_after : goal.returns-clause-starts_after
returns-clause-starts_after c = search starts-written

pub returns-clause-deltas_after : goal.returns-clause-deltas_after
returns-clause-deltas_after c = search deltas-written
