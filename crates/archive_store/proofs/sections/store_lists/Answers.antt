use Rattle.archive_store.proofs.sections.WholeSet.{count-short, deltas-room, set-whole, set_next}
use Rattle.std.proofs.Common.{rules}
use Rattle.archive_store.proofs.sections.store_lists.Goals as goal

pub store_u32-requires : goal.store_u32-requires
store_u32-requires c = (search rules, search count-short)

pub store_deltas-requires-clause-offsets_value : goal.store_deltas-requires-clause-offsets_value
store_deltas-requires-clause-offsets_value c = (search rules, search rules)

pub store_deltas-requires-clause-targets_in_bounds : goal.store_deltas-requires-clause-targets_in_bounds
store_deltas-requires-clause-targets_in_bounds c = deltas-room _ _ _ _ _ _ _ _ _ _ c.store_starts-m.ensures.out_after c.store_u32.ensures (search rules)

pub returns-clause-out_after : goal.returns-clause-out_after
returns-clause-out_after c = search set-whole

pub returns-clause-value : goal.returns-clause-value
returns-clause-value c = search set_next
