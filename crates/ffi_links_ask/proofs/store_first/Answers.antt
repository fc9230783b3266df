use borrow.Author.Rules.{rules}
use Rattle.ffi_links.proofs.Sorting.{front_long}
use Rattle.ffi_links.proofs.Asking.{stored-fronts}
use Rattle.ffi_links_ask.proofs.store_first.Goals as goal

-- src/lib.rt:153:39

-- src/lib.rt:153:48

-- src/lib.rt:153:57

-- src/lib.rt:153:66

-- src/lib.rt:153:5

-- src/lib.rt:137:1

-- src/lib.rt:137:1

-- src/lib.rt:137:1

-- src/lib.rt:137:1

-- src/lib.rt:137:1

pub slice_bounds-encode_links-end : goal.slice_bounds-encode_links-end
slice_bounds-encode_links-end c = search (rules, front_long)

pub slice_bounds-encode_links-end-2 : goal.slice_bounds-encode_links-end-2
slice_bounds-encode_links-end-2 c = search (rules, front_long)

pub slice_bounds-encode_links-end-3 : goal.slice_bounds-encode_links-end-3
slice_bounds-encode_links-end-3 c = search (rules, front_long)

pub slice_bounds-encode_links-end-4 : goal.slice_bounds-encode_links-end-4
slice_bounds-encode_links-end-4 c = search (rules, front_long)

pub returns : goal.returns
returns c = let lent = c.requires in
    let written = c.encode_links.ensures.d_after in
    let given = c.args in
    stored-fronts given.n lent.n_bound given.a.now given.b.now given.c.now given.d.now lent.a_len.0 lent.a_len.1.0 lent.a_len.1.1.0
    lent.a_len.1.1.1 given.x.now given.y.now given.z.now given.w.now lent.x_len.0 lent.x_len.1.0 lent.x_len.1.1.0 lent.x_len.1.1.1 written
