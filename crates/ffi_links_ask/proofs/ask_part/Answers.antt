use lib.ListN.{take}
use borrow.Author.Rules.{rules}
use Rattle.cover.specs.Answers.{link_columns}
use Rattle.ffi_links.proofs.Sorting.{front_long}
use Rattle.ffi_links.proofs.Asking.{long-told, long-written}
use Rattle.ffi_links_ask.proofs.ask_part.Goals as goal

-- src/lib.rt:174:46

-- src/lib.rt:174:55

-- src/lib.rt:174:64

-- src/lib.rt:174:73

-- src/lib.rt:174:5

-- src/lib.rt:157:1

-- src/lib.rt:157:1

-- src/lib.rt:157:1

-- src/lib.rt:157:1

-- src/lib.rt:157:1

pub slice_bounds-ridgeoven_chain_links-end : goal.slice_bounds-ridgeoven_chain_links-end
slice_bounds-ridgeoven_chain_links-end c = search (rules, front_long)

pub slice_bounds-ridgeoven_chain_links-end-2 : goal.slice_bounds-ridgeoven_chain_links-end-2
slice_bounds-ridgeoven_chain_links-end-2 c = search (rules, front_long)

pub slice_bounds-ridgeoven_chain_links-end-3 : goal.slice_bounds-ridgeoven_chain_links-end-3
slice_bounds-ridgeoven_chain_links-end-3 c = search (rules, front_long)

pub slice_bounds-ridgeoven_chain_links-end-4 : goal.slice_bounds-ridgeoven_chain_links-end-4
slice_bounds-ridgeoven_chain_links-end-4 c = search (rules, front_long)

pub returns : goal.returns
returns c = let lent = c.requires.a_len in
    let told = c.ridgeoven_chain_links.ensures in
    let given = c.args in
    let stored = link_columns (take given.n given.x.now) (take given.n given.y.now) (take given.n given.z.now) (take given.n given.w.now) in (
      long-told stored given.chains.now given.a.now given.b.now given.c.now given.d.now lent.0 lent.1.0 lent.1.1.0 lent.1.1.1 told.value,
      long-written stored given.chains.now given.a.now given.b.now given.c.now given.d.now lent.0 lent.1.0 lent.1.1.0 lent.1.1.1
          (link_columns given.a.now given.b.now given.c.now given.d.now) told.d_after,
    )
