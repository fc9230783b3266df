use Rattle.run_write.proofs.Lent.{slots-fit, offsets-fit, name-there, name-count, offsets-there, offsets-count, targets-there, targets-count, starts-count, kids-count, ready, children, all-filled}
use Rattle.run_list.proofs.Answered.{counted, listed-laid}
use borrow.Author.Rules.{rules}
use Rattle.run_list.proofs.list_laid.Goals as goal

pub overflow_mul-k : goal.overflow_mul-k
overflow_mul-k c = search (rules, slots-fit)

pub overflow_add-k : goal.overflow_add-k
overflow_add-k c = search (rules, offsets-fit)

pub slice_bounds-name-end : goal.slice_bounds-name-end
slice_bounds-name-end c = search (rules, name-there)

pub slice_bounds-list_tables-end : goal.slice_bounds-list_tables-end
slice_bounds-list_tables-end c = search (rules, name-count)

pub slice_bounds-offsets-end : goal.slice_bounds-offsets-end
slice_bounds-offsets-end c = search (rules, offsets-there)

pub slice_bounds-list_tables-end-2 : goal.slice_bounds-list_tables-end-2
slice_bounds-list_tables-end-2 c = search (rules, offsets-count)

pub slice_bounds-targets-end : goal.slice_bounds-targets-end
slice_bounds-targets-end c = search (rules, targets-there)

pub slice_bounds-list_tables-end-3 : goal.slice_bounds-list_tables-end-3
slice_bounds-list_tables-end-3 c = search (rules, targets-count)

pub slice_bounds-list_tables-end-4 : goal.slice_bounds-list_tables-end-4
slice_bounds-list_tables-end-4 c = search (rules, starts-count)

pub slice_bounds-list_tables-end-5 : goal.slice_bounds-list_tables-end-5
slice_bounds-list_tables-end-5 c = search (rules, kids-count)

pub list_tables-requires-clause-ready : goal.list_tables-requires-clause-ready
list_tables-requires-clause-ready c = search (rules, ready)

pub list_tables-requires-clause-children : goal.list_tables-requires-clause-children
list_tables-requires-clause-children c = (search (rules, children), search (rules, counted))

pub list_tables-requires-clause-filled : goal.list_tables-requires-clause-filled
list_tables-requires-clause-filled c = search (rules, all-filled)

pub returns : goal.returns
returns c = listed-laid _ _ _ _ _ _ _ _ c.requires.laid_by.0 _ c.list_tables.ensures
