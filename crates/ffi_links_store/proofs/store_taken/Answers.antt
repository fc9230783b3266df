use mathlib.Core.List.{List, [], ◌∷◌}
use Prim.Native.Nat.{ℕ}
use lib.ListN.{length}
use borrow.Author.Rules.{rules}
use Rattle.cover.specs.Answers.{link_columns}
use Rattle.ffi_links.proofs.Sorting.{front_long}
use Rattle.ffi_links.proofs.Asking.{unstored-told, unstored-kept, store_told, store-written}
use Rattle.ffi_links_store.proofs.store_taken.Goals as goal

-- src/lib.rt:285:9

-- src/lib.rt:285:9

-- src/lib.rt:287:46

-- src/lib.rt:287:55

-- src/lib.rt:287:64

-- src/lib.rt:287:73

-- src/lib.rt:287:5

-- src/lib.rt:270:1

-- src/lib.rt:270:1

-- src/lib.rt:270:1

-- src/lib.rt:270:1

-- src/lib.rt:270:1

pub returns-then-n-gt1024 : goal.returns-then-n-gt1024
returns-then-n-gt1024 c = (search (rules, unstored-told), search (rules, unstored-kept))

pub slice_bounds-ridgeoven_cover_store-end : goal.slice_bounds-ridgeoven_cover_store-end
slice_bounds-ridgeoven_cover_store-end c = search (rules, front_long)

pub slice_bounds-ridgeoven_cover_store-end-2 : goal.slice_bounds-ridgeoven_cover_store-end-2
slice_bounds-ridgeoven_cover_store-end-2 c = search (rules, front_long)

pub slice_bounds-ridgeoven_cover_store-end-3 : goal.slice_bounds-ridgeoven_cover_store-end-3
slice_bounds-ridgeoven_cover_store-end-3 c = search (rules, front_long)

pub slice_bounds-ridgeoven_cover_store-end-4 : goal.slice_bounds-ridgeoven_cover_store-end-4
slice_bounds-ridgeoven_cover_store-end-4 c = search (rules, front_long)

pub returns : goal.returns
returns c = let lent = c.requires in
    let given = c.args in
    let few = c.if-n-gt1024.false in
    let told = c.ridgeoven_cover_store.ensures in
    let rooms : List ℕ = length given.a.now ∷ length given.b.now ∷ length given.c.now ∷ length given.d.now ∷ [] in (
      store_told given.n few given.x.now given.y.now given.z.now given.w.now lent.0 lent.1.0 lent.1.1.0 lent.1.1.1 rooms told.value,
      store-written given.n few given.x.now given.y.now given.z.now given.w.now lent.0 lent.1.0 lent.1.1.0 lent.1.1.1 rooms
          (link_columns given.a.now given.b.now given.c.now given.d.now) told.d_after,
    )
