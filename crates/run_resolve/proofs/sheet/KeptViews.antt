-- What the kept columns of rows and records stand for: the records of the places that are kept, one by one.
use mathlib.Core.Path.{◌≡◌, refl, ap, sym, ◌∙◌}
use mathlib.Core.Bool.{Bool, true, false, not}
use mathlib.Core.List.{List, [], ◌∷◌, map}
use Prim.Native.Nat.{ℕ, zero, suc, ◌+◌, ◌-◌, ◌≤◌, ◌<◌}
use native.Mathlib.Omega.{arith}
use native.Mathlib.Nat.{not-suc-le-zero, le_of_suc-le-suc, zero-add}
use lib.Dec.{eqb}
use lib.ListN.{length, get_or, take, length-map, get_or-map}
use lib.Seq.{get_or-take}
use Rattle.lists.specs.Lists.{up_from}
use Rattle.lists.proofs.Each.{each-imp, each-get_or}
use Rattle.lists.proofs.Flat.{length-up_from}
use Rattle.lists.proofs.Filters.{each_below, map-places}
use Rattle.lists.proofs.Pairs.{each-up_from}
use Rattle.run_state.specs.declared.Groups.{Groups}
use Rattle.run_state.specs.declared.Rows.{Rows}
use Rattle.run_state.specs.declared.Unresolved.{Unresolved}
use Rattle.run_state.specs.declared.Roots.{Roots}
use Rattle.run_state.specs.View.{listed, label_at, unresolved_at, root_at}
use Rattle.cleaning.specs.Survivors.{keep}
use Rattle.cleaning.proofs.Ranks.{length-keep, each_keep}
use Rattle.run_compact.specs.Columns.{gone, survive, kept_in}
use Rattle.run_resolve.specs.sheet.Kept.{RowsKept, UnresolvedKept, RootsKept}

-- ── places ───────────────────────────────────────────────────────────────────────────────────

keep-map : {A B : Type 0} (f : A → B) (es : List Bool) (xs : List A) → keep es (map f xs) ≡ map f (keep es xs)
unfolding keep
keep-map f [] xs = refl
keep-map f (e ∷ es) [] = refl
keep-map f (true ∷ es) (x ∷ xs) = keep-map f es xs
keep-map f (false ∷ es) (x ∷ xs) = ap (λ ys. f x ∷ ys) (keep-map f es xs)

later : (x : ℕ) (xs : List ℕ) (i p : ℕ) → suc i ≤ p → get_or xs (p - suc i) 0 ≡ get_or (x ∷ xs) (p - i) 0
later x xs i p h = ap (λ k. get_or (x ∷ xs) k 0) {x = suc (p - suc i)} {y = p - i} (omega arith)

-- the kept ones among the places from i on
abbrev places_from : ℕ → List Bool → List ℕ
places_from i es = keep es (up_from i (length es))

place-from : (es : List Bool) (i j : ℕ) → j < length (places_from i es) → i ≤ get_or (places_from i es) j 0
place-from es i j l =
    each-get_or (λ k. i ≤ k) (places_from i es) j 0
    (each_keep (λ k. i ≤ k) es (up_from i (length es))
    (each-imp (λ k. (i ≤ k) × (k < i + length es)) (λ k. i ≤ k) (up_from i (length es)) (λ k b. b.0) (each-up_from i (length es)))) l

place-below : (es : List Bool) (j : ℕ) → j < length (places_from 0 es) → get_or (places_from 0 es) j 0 < length es
place-below es j l =
    each-get_or (λ k. k < length es) (places_from 0 es) j 0 (each_keep (λ k. k < length es) es (up_from 0 (length es)) (each_below (λ k. k < length es) (length es) (λ k b. b))) l

-- a kept element stands in the column at the place that is kept
keep-get_or : (es : List Bool) (xs : List ℕ) (i j : ℕ) → j < length (places_from i es) → get_or (keep es xs) j 0 ≡ get_or xs (get_or (places_from i es) j 0 - i) 0
unfolding keep up_from
keep-get_or [] xs i j l = absurd (not-suc-le-zero l)
keep-get_or (b ∷ es) [] i j l = refl
keep-get_or (true ∷ es) (x ∷ xs) i j l = keep-get_or es xs (suc i) j l ∙ later x xs i (get_or (places_from (suc i) es) j 0) (place-from es (suc i) j l)
keep-get_or (false ∷ es) (x ∷ xs) i zero l = ap (λ k. get_or (x ∷ xs) k 0) {x = 0} {y = i - i} (omega arith)
keep-get_or (false ∷ es) (x ∷ xs) i (suc j) l =
    let m : j < length (places_from (suc i) es) = le_of_suc-le-suc l in
    keep-get_or es xs (suc i) j m ∙ later x xs i (get_or (places_from (suc i) es) j 0) (place-from es (suc i) j m)

module _ (fs : List ℕ) (n : ℕ) (e : n ≡ survive fs) (m : ℕ) (f : length fs ≡ m) where
  gone-length : length (gone fs) ≡ m
  unfolding gone
  gone-length = length-map fs (λ x. not (eqb x 0)) ∙ f

  place : ℕ → ℕ
  place j = get_or (places_from 0 (gone fs)) j 0

  places-length : length (places_from 0 (gone fs)) ≡ n
  unfolding survive
  places-length = length-keep (gone fs) (up_from 0 (length (gone fs))) (length-up_from 0 (length (gone fs))) ∙ sym e

  column-at : (col xs : List ℕ) → take n col ≡ kept_in fs (take m xs) → (j : ℕ) → j < n → get_or col j 0 ≡ get_or xs (place j) 0
  unfolding place
  column-at col xs h j l =
      let k : j < length (places_from 0 (gone fs)) = omega (arith, places-length) in
      let p = get_or (places_from 0 (gone fs)) j 0 in
      let b : p < m = omega (arith, place-below (gone fs) j k, gone-length) in
      sym (get_or-take n col j 0 l) ∙ ap (λ ys. get_or ys j 0) h ∙ keep-get_or (gone fs) (take m xs) 0 j k
      ∙ ap (λ i. get_or (take m xs) i 0) {x = p - 0} {y = p} (omega arith) ∙ get_or-take m xs p 0 b

  -- records of the places that are kept
  listed_kept : {A : Type 0} (to from : ℕ → A) → ((j : ℕ) → j < n → to j ≡ from (place j)) → listed to n ≡ keep (gone fs) (listed from m)
  unfolding place
  listed_kept to from h =
      let ps = places_from 0 (gone fs) in
      let l : n ≡ length (map from ps) = sym (length-map ps from ∙ places-length) in
      ap (λ k. map to (up_from 0 k)) l
      ∙ map-places to 0 (map from ps) (from 0) (λ j b. ap to (zero-add j) ∙ h j (omega arith) ∙ sym (get_or-map from ps j 0))
      ∙ sym (keep-map from (gone fs) (up_from 0 (length (gone fs))))
      ∙ ap (λ k. keep (gone fs) (map from (up_from 0 k))) gone-length

-- ── rows and records ─────────────────────────────────────────────────────────────────────────

-- labels follow the rows that survive
pub labels_kept : (g : Groups) (fs : List ℕ) (r q : Rows) → length fs ≡ r.count → RowsKept fs r q → listed (label_at g q) q.count ≡ keep (gone fs) (listed (label_at g r) r.count)
unfolding label_at
labels_kept g fs r q f k =
    listed_kept fs q.count k.count r.count f (label_at g q) (label_at g r)
    (λ j l. rw (
      column-at fs q.count k.count r.count f q.groups r.groups k.groups j l,
      column-at fs q.count k.count r.count f q.chains r.chains k.chains j l,
      column-at fs q.count k.count r.count f q.seqs r.seqs k.seqs j l,
    ))

pub unresolved-kept : (fs : List ℕ) (u q : Unresolved) → length fs ≡ u.count → UnresolvedKept fs u q
    → listed (unresolved_at q) q.count ≡ keep (gone fs) (listed (unresolved_at u) u.count)
unfolding unresolved_at
unresolved-kept fs u q f k =
    listed_kept fs q.count k.count u.count f (unresolved_at q) (unresolved_at u)
    (λ j l. rw (
      column-at fs q.count k.count u.count f q.children u.children k.children j l,
      column-at fs q.count k.count u.count f q.kinds u.kinds k.kinds j l,
      column-at fs q.count k.count u.count f q.handles u.handles k.handles j l,
    ))

pub roots_kept : (fs : List ℕ) (r q : Roots) → length fs ≡ r.count → RootsKept fs r q → listed (root_at q) q.count ≡ keep (gone fs) (listed (root_at r) r.count)
unfolding root_at
roots_kept fs r q f k =
    listed_kept fs q.count k.count r.count f (root_at q) (root_at r)
    (λ j l. rw (
      column-at fs q.count k.count r.count f q.rows r.rows k.rows j l,
      column-at fs q.count k.count r.count f q.handles r.handles k.handles j l,
    ))
