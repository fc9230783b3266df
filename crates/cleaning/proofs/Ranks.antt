-- The rows that are not erased: what a row holds stands at the row's rank among them, ranks tell these rows apart, and records follow them.
use mathlib.Core.Path.{◌≡◌, refl, ap, sym, ◌∙◌}
use mathlib.Core.Bool.{Bool, true, false, cond, not}
use mathlib.Core.Logic.{inl, inr}
use mathlib.Core.List.{List, [], ◌∷◌, ◌++◌, map}
use Prim.Native.Nat.{ℕ, zero, suc, ◌+◌, ◌-◌, ◌*◌, ◌≤◌, ◌<◌}
use native.Mathlib.Omega.{arith}
use native.Mathlib.Nat.{not-suc-le-zero, le_of_suc-le-suc, add-zero}
use lib.Dec.{eqb, ltb}
use lib.ListN.{length, get_or, take, length-map}
use lib.Seq.{take_all, take-length}
use borrow.Author.Tests.{ltb-true, ltb-false, ne_eqb}
use Rattle.lists.specs.Lists.{flat, filter, part, up_from, Each}
use Rattle.lists.proofs.Tests.{tested, not-both}
use Rattle.lists.proofs.Once.{eqb-iff}
use Rattle.columns.specs.Limits.{Served}
use Rattle.run_renumber.specs.Numbers.{takes, numbers_from}
use Rattle.archive.specs.File.{Unresolved, Root}
use Rattle.cleaning.specs.Archive.{Event, root_in, references_in}
use Rattle.cleaning.specs.Cleaning.{count}
use Rattle.cleaning.specs.Survivors.{keep, rank_in, keep_slots, keep_unresolved, keep_roots}
use Rattle.cleaning.proofs.Slots.{flagged, erased_of}

-- ── elements ─────────────────────────────────────────────────────────────────────────────────

pub length-keep : {A : Type 0} (es : List Bool) (xs : List A) → length xs ≡ length es → length (keep es xs) ≡ length (filter not es)
unfolding keep filter
length-keep [] xs e = refl
length-keep (b ∷ es) [] e = absurd (not-suc-le-zero {n = length es} (omega (arith, e)))
length-keep (true ∷ es) (x ∷ xs) e = length-keep es xs (omega (arith, e))
length-keep (false ∷ es) (x ∷ xs) e = ap suc (length-keep es xs (omega (arith, e)))

pub keep_at : {A : Type 0} (es : List Bool) (xs : List A) (i : ℕ) (d : A) → length xs ≡ length es → i < length es → get_or es i false ≡ false
    → get_or (keep es xs) (rank_in es i) d ≡ get_or xs i d
unfolding keep rank_in filter
keep_at [] xs i d e l s = absurd (not-suc-le-zero l)
keep_at (b ∷ es) [] i d e l s = absurd (not-suc-le-zero {n = length es} (omega (arith, e)))
keep_at (b ∷ es) (x ∷ xs) zero d e l s = rw s
keep_at (true ∷ es) (x ∷ xs) (suc i) d e l s = keep_at es xs i d (omega (arith, e)) (le_of_suc-le-suc l) s
keep_at (false ∷ es) (x ∷ xs) (suc i) d e l s = keep_at es xs i d (omega (arith, e)) (le_of_suc-le-suc l) s

pub each_keep : {A : Type 0} (P : A → Type 0) (es : List Bool) (xs : List A) → Each P xs → Each P (keep es xs)
unfolding keep
each_keep P [] xs h = tt
each_keep P (b ∷ es) [] h = tt
each_keep P (true ∷ es) (x ∷ xs) h = each_keep P es xs h.1
each_keep P (false ∷ es) (x ∷ xs) h = (h.0, each_keep P es xs h.1)

-- what is made of the kept places alone
keep-flat : {B : Type 0} (q : ℕ → Bool) (g : ℕ → List B) (i : ℕ) (es : List Bool) → ((j : ℕ) → j < length es → q (i + j) ≡ get_or es j false)
    → flat (λ j. cond (q j) [] (g j)) (up_from i (length es)) ≡ flat g (keep es (up_from i (length es)))
unfolding keep up_from
keep-flat q g i [] h = refl
keep-flat q g i (b ∷ es) h =
    go b (ap q (sym (add-zero i)) ∙ h 0 (omega arith))
    (keep-flat q g (suc i) es (λ j l. let e : suc i + j ≡ i + suc j = omega arith in ap q e ∙ h (suc j) (omega arith)))
  where
    rest : List ℕ
    rest = keep es (up_from (suc i) (length es))

    go : (c : Bool) → q i ≡ c → flat (λ j. cond (q j) [] (g j)) (up_from (suc i) (length es)) ≡ flat g rest
        → cond (q i) [] (g i) ++ flat (λ j. cond (q j) [] (g j)) (up_from (suc i) (length es)) ≡ flat g (cond c rest (i ∷ rest))
    go true e r = rw (e, r)
    go false e r = rw (e, r)

-- the lists of the kept rows
pub keep-slots : (K : ℕ) (served : Served K) (es : List Bool) (ls : List (List ℕ)) → keep_slots K es ls ≡ flat (λ i. part (K * i) K ls) (keep es (up_from 0 (length es)))
unfolding keep_slots
keep-slots K served es ls = keep-flat (λ i. get_or es i false) (λ i. part (K * i) K ls) 0 es (λ j l. ap (λ i. get_or es i false) {x = 0 + j} {y = j} (omega arith))

-- ── ranks ────────────────────────────────────────────────────────────────────────────────────

-- a rank among flags is a rank among events
pub rank-counts : (es : List Event) (i : ℕ) → rank_in (map erased_of es) i ≡ count (take i es)
unfolding rank_in filter count
rank-counts [] zero = refl
rank-counts [] (suc i) = refl
rank-counts (x ∷ es) zero = refl
rank-counts (x ∷ es) (suc i) = go x.erased (rank-counts es i)
  where
    rest : List Bool
    rest = filter not (take i (map erased_of es))

    go : (b : Bool) → length rest ≡ count (take i es) → length (cond (not b) (b ∷ rest) rest) ≡ cond b (count (take i es)) (suc (count (take i es)))
    go true e = e
    go false e = ap suc e

pub count-flags : (es : List Event) → length (filter not (map erased_of es)) ≡ count es
unfolding rank_in
count-flags es =
    ap (λ bs. length (filter not bs)) (sym (take_all (length es) (map erased_of es) (omega (arith, length-map es erased_of))))
    ∙ rank-counts es (length es) ∙ ap count (take-length es)

-- renumbering's column gives every row its rank, from the start on
pub numbers-ranks : (start : ℕ) (flags : List ℕ) (i : ℕ) → i < length flags → get_or (numbers_from start flags) i 0 ≡ start + rank_in (map flagged flags) i
unfolding numbers_from takes rank_in filter
numbers-ranks start [] i l = absurd (not-suc-le-zero l)
numbers-ranks start (f ∷ fs) zero l = omega arith
numbers-ranks start (f ∷ fs) (suc i) l = numbers-ranks (start + cond (eqb f 0) 1 0) fs i (le_of_suc-le-suc l) ∙ go (eqb f 0)
  where
    rest : List Bool
    rest = filter not (take i (map flagged fs))

    go : (b : Bool) → start + cond b 1 0 + length rest ≡ start + length (cond (not (not b)) (not b ∷ rest) rest)
    go true = omega arith
    go false = omega arith

-- ranks do not fall, and rise past a row that is not erased
pub rank-level : (es : List Bool) (i j : ℕ) → i ≤ j → rank_in es i ≤ rank_in es j
unfolding rank_in filter
rank-level [] zero j h = omega arith
rank-level [] (suc i) zero h = omega arith
rank-level [] (suc i) (suc j) h = omega arith
rank-level (b ∷ es) zero j h = omega arith
rank-level (b ∷ es) (suc i) zero h = absurd (not-suc-le-zero h)
rank-level (true ∷ es) (suc i) (suc j) h = rank-level es i j (le_of_suc-le-suc h)
rank-level (false ∷ es) (suc i) (suc j) h = omega (arith, rank-level es i j (le_of_suc-le-suc h))

pub rank_rises : (es : List Bool) (i j : ℕ) → i < j → j < length es → get_or es i false ≡ false → rank_in es i < rank_in es j
unfolding rank_in filter
rank_rises [] i j h l s = absurd (not-suc-le-zero l)
rank_rises (b ∷ es) i zero h l s = absurd (not-suc-le-zero h)
rank_rises (b ∷ es) zero (suc j) h l s = rw s (omega arith)
rank_rises (true ∷ es) (suc i) (suc j) h l s = rank_rises es i j (le_of_suc-le-suc h) (le_of_suc-le-suc l) s
rank_rises (false ∷ es) (suc i) (suc j) h l s = omega (arith, rank_rises es i j (le_of_suc-le-suc h) (le_of_suc-le-suc l) s)

-- a rank is below the number of the rows that are not erased
pub rank_below : (es : List Bool) (i : ℕ) → i < length es → get_or es i false ≡ false → rank_in es i < length (filter not es)
unfolding rank_in filter
rank_below [] i l s = absurd (not-suc-le-zero l)
rank_below (b ∷ es) zero l s = rw s (omega arith)
rank_below (true ∷ es) (suc i) l s = rank_below es i (le_of_suc-le-suc l) s
rank_below (false ∷ es) (suc i) l s = omega (arith, rank_below es i (le_of_suc-le-suc l) s)

module _ (es : List Bool) (i j : ℕ) (l : i < length es) (m : j < length es) (s : get_or es i false ≡ false) (t : get_or es j false ≡ false) where
  rank-inj : rank_in es i ≡ rank_in es j → i ≡ j
  rank-inj e = elim (tested (ltb i j)) [
    | inl a ↦ absurd (omega (arith, rank_rises es i j (ltb-true i j a) m s))
    | inr a ↦ elim (tested (ltb j i)) [
      | inl b ↦ absurd (omega (arith, rank_rises es j i (ltb-true j i b) l t))
      | inr b ↦ omega (arith, ltb-false i j a, ltb-false j i b)
    ]
  ]

  rank_same : eqb (rank_in es i) (rank_in es j) ≡ eqb i j
  rank_same = eqb-iff (rank_in es i) (rank_in es j) i j rank-inj (λ e. ap (rank_in es) e)

-- ── records ──────────────────────────────────────────────────────────────────────────────────

module _ (es : List Bool) (i : ℕ) (l : i < length es) (s : get_or es i false ≡ false) where
  -- an erased row is another one
  other_row : (j : ℕ) → get_or es j false ≡ true → j ≡ i → ⊥
  other_row j e q = not-both (sym (ap (λ k. get_or es k false) q) ∙ e) s

  pub keep-root : (rs : List Root) → Each (λ r. r.row < length es) rs → root_in (keep_roots es rs) (rank_in es i) ≡ root_in rs i
  unfolding keep_roots filter root_in
  keep-root [] h = refl
  keep-root (r ∷ rs) h = elim (tested (get_or es r.row false)) [
    | inl e ↦ rw (e, ne_eqb r.row i (other_row r.row e)) (keep-root rs h.1)
    | inr e ↦ rw (e, rank_same es r.row i h.0 l e s) (ap (cond (eqb r.row i) _) (keep-root rs h.1))
  ]

  pub keep-references : (start : ℕ) (us : List Unresolved) → Each (λ u. (start ≤ u.child) × (u.child < start + length es)) us
      → references_in (keep_unresolved start es us) (start + rank_in es i) ≡ references_in us (start + i)
  unfolding keep_unresolved references_in filter
  keep-references start [] h = refl
  keep-references start (u ∷ us) h =
      let j = u.child - start in
      let m : j < length es = omega arith in
      elim (tested (get_or es j false)) [
        | inl e ↦ rw (e, ne_eqb u.child (start + i) (λ q. other_row j e (omega arith))) (keep-references start us h.1)
        | inr e ↦ rw (
          e,
          eqb-iff (start + rank_in es j) (start + rank_in es i) u.child (start + i)
              (λ q. omega (arith, rank-inj es j i m l e s (omega arith))) (λ q. ap (λ k. start + rank_in es k) {x = j} {y = i} (omega arith)),
        )
            (elim (tested (eqb u.child (start + i))) [
              | inl a ↦ rw a (ap (λ vs. record { kind = u.kind; handle = u.handle } ∷ vs) (keep-references start us h.1))
              | inr a ↦ rw a (keep-references start us h.1)
            ])
      ]
