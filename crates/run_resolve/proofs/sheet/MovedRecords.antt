-- Records that name their rows by new numbers: where the numbers are the rows' ranks, these are the survivors' records.
use mathlib.Core.Path.{◌≡◌, refl, ap, sym, ◌∙◌}
use mathlib.Core.Bool.{Bool}
use mathlib.Core.List.{List, [], ◌∷◌, map, map-map}
use Prim.Native.Nat.{ℕ, zero, suc, ◌+◌, ◌-◌, ◌≤◌, ◌<◌}
use native.Mathlib.Omega.{arith}
use native.Mathlib.Nat.{not-suc-le-zero, le_of_suc-le-suc}
use lib.ListN.{length, get_or, take}
use lib.Seq.{get_or-take, length-take-le}
use Rattle.lists.specs.Lists.{up_from}
use Rattle.lists.proofs.Flat.{map-ext}
use Rattle.lists.proofs.Filters.{each_below}
use Rattle.archive.specs.File
use Rattle.run_state.specs.View.{listed, unresolved_at, root_at}
use Rattle.cleaning.specs.Survivors.{rank_in}
use Rattle.run_compact.specs.Columns.{new_rows}
use Rattle.run_state.specs.ByColumns.{unresolved_of, roots_of}

get_or-map-in : (f : ℕ → ℕ) (l : List ℕ) (j : ℕ) → j < length l → get_or (map f l) j 0 ≡ f (get_or l j 0)
get_or-map-in f [] j h = absurd (not-suc-le-zero h)
get_or-map-in f (x ∷ l) zero h = refl
get_or-map-in f (x ∷ l) (suc j) h = get_or-map-in f l j (le_of_suc-le-suc h)

moved_at : (n base from : ℕ) (ys xs ns : List ℕ) → take n ys ≡ new_rows base from ns (take n xs) → n ≤ length xs → (j : ℕ) → j < n
    → get_or ys j 0 ≡ get_or ns (get_or xs j 0 - base) 0 - from
unfolding new_rows
moved_at n base from ys xs ns h l j b =
    sym (get_or-take n ys j 0 b) ∙ ap (λ zs. get_or zs j 0) h
    ∙ get_or-map-in (λ x. get_or ns (x - base) 0 - from) (take n xs) j (omega (arith, length-take-le n xs l))
    ∙ ap (λ x. get_or ns (x - base) 0 - from) (get_or-take n xs j 0 b)

-- the numbers of n rows are their ranks, from the start on
module _ (es : List Bool) (n start : ℕ) (ns : List ℕ) (ranks : (i : ℕ) → i < n → get_or ns i 0 ≡ start + rank_in es i) where
  pub children-moved : (c : ℕ) (xs ys ks hs : List ℕ) → take c ys ≡ new_rows start 0 ns (take c xs) → c ≤ length xs
      → ((j : ℕ) → j < c → get_or xs j 0 - start < n)
      → listed (unresolved_at (unresolved_of c ys ks hs)) c
      ≡ map (λ u. record { child = start + rank_in es (u.child - start); kind = u.kind; handle = u.handle }) (listed (unresolved_at (unresolved_of c xs ks hs)) c)
  unfolding unresolved_at
  children-moved c xs ys ks hs m l inside =
      let to = unresolved_at (unresolved_of c ys ks hs) in
      let from = unresolved_at (unresolved_of c xs ks hs) in
      let f : File.Unresolved → File.Unresolved = λ u. record { child = start + rank_in es (u.child - start); kind = u.kind; handle = u.handle } in
      map-ext to (λ j. f (from j)) (up_from 0 c)
      (each_below (λ j. to j ≡ f (from j)) c (λ j b.
      let e : get_or ys j 0 ≡ start + rank_in es (get_or xs j 0 - start) =
      moved_at c start 0 ys xs ns m l j b ∙ omega (arith, ranks (get_or xs j 0 - start) (inside j b)) in
      rw e))
      ∙ sym (map-map f from (up_from 0 c))

  pub roots-moved : (c : ℕ) (xs ys hs : List ℕ) → take c ys ≡ new_rows 0 start ns (take c xs) → c ≤ length xs → ((j : ℕ) → j < c → get_or xs j 0 < n)
      → listed (root_at (roots_of c ys hs)) c ≡ map (λ r. record { row = rank_in es r.row; handle = r.handle }) (listed (root_at (roots_of c xs hs)) c)
  unfolding root_at
  roots-moved c xs ys hs m l inside =
      let to = root_at (roots_of c ys hs) in
      let from = root_at (roots_of c xs hs) in
      let f : File.Root → File.Root = λ r. record { row = rank_in es r.row; handle = r.handle } in
      map-ext to (λ j. f (from j)) (up_from 0 c)
      (each_below (λ j. to j ≡ f (from j)) c (λ j b.
      let x = get_or xs j 0 in
      let e : get_or ys j 0 ≡ rank_in es x =
      moved_at c 0 start ys xs ns m l j b ∙ ap (λ i. get_or ns i 0 - start) {x = x - 0} {y = x} (omega arith) ∙ omega (arith, ranks x (inside j b)) in
      rw e))
      ∙ sym (map-map f from (up_from 0 c))
