use Rattle.lists.proofs.Slices.{prefix-count, prefix-short}
use borrow.Author.Rules.{rules}
use Rattle.columns_sets.proofs.sets.write_table.Goals as goal

pub slice_bounds-write_set-end : goal.slice_bounds-write_set-end
slice_bounds-write_set-end c = search (rules, prefix-count)

pub slice_bounds-write_set-end-2 : goal.slice_bounds-write_set-end-2
slice_bounds-write_set-end-2 c = search (rules, prefix-count)

pub write_set-requires-clause-n_in_bounds : goal.write_set-requires-clause-n_in_bounds
write_set-requires-clause-n_in_bounds c = (search rules, search prefix-short)
