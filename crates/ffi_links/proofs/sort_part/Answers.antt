use borrow.Author.Rules.{rules}
use Rattle.ffi_links.proofs.Sorting.{front_long, fronts-even, front-few, front-within}
use Rattle.ffi_links.proofs.sort_part.Goals as goal

-- src/lib.rt:67:28

-- src/lib.rt:67:37

-- src/lib.rt:67:46

-- src/lib.rt:67:55

-- src/lib.rt:67:5

-- src/lib.rt:50:1

-- src/lib.rt:50:1

-- src/lib.rt:50:1

-- src/lib.rt:50:1

-- src/lib.rt:50:1

pub slice_bounds-sort_links-end : goal.slice_bounds-sort_links-end
slice_bounds-sort_links-end c = search (rules, front_long)

pub slice_bounds-sort_links-end-2 : goal.slice_bounds-sort_links-end-2
slice_bounds-sort_links-end-2 c = search (rules, front_long)

pub slice_bounds-sort_links-end-3 : goal.slice_bounds-sort_links-end-3
slice_bounds-sort_links-end-3 c = search (rules, front_long)

pub slice_bounds-sort_links-end-4 : goal.slice_bounds-sort_links-end-4
slice_bounds-sort_links-end-4 c = search (rules, front_long)

pub sort_links-requires-clause-b_len : goal.sort_links-requires-clause-b_len
sort_links-requires-clause-b_len c = (search (rules, fronts-even), (search (rules, fronts-even), search (rules, fronts-even)))

pub sort_links-requires-clause-a_len_bound : goal.sort_links-requires-clause-a_len_bound
sort_links-requires-clause-a_len_bound c = search (rules, front-few)

pub sort_links-requires-clause-a_in_bounds : goal.sort_links-requires-clause-a_in_bounds
sort_links-requires-clause-a_in_bounds c = (search (rules, front-within), (search (rules, front-within), (search (rules, front-within), search (rules, front-within))))
