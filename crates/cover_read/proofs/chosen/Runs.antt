-- The runs of a column that doesn't fall: what stands before a chain's run, the run, and what stands past it.
use mathlib.Core.Path.{◌≡◌, refl, ◌∙◌, ap}
use mathlib.Core.Bool.{true, false}
use mathlib.Core.Logic.{inl, inr}
use mathlib.Core.List.{List, [], ◌∷◌, ◌++◌}
use Prim.Native.Nat.{ℕ, zero, suc, ◌+◌, ◌<◌}
use native.Mathlib.Nat.{add-zero}
use native.Mathlib.Omega.{arith}
use lib.Dec.{ltb, leb, eqb}
use lib.ListN.{drop}
use borrow.Author.Tests.{ltb-true, ltb-false, leb-true, le-leb, ne_eqb, eqb-false}
use Rattle.lists.specs.Lists.{mem, up_from}
use Rattle.lists.specs.Order.{level_above, sort}
use Rattle.lists.proofs.Tests.{tested, both}
use Rattle.lists.proofs.Rising.{mem-sort, level-lower}
use Rattle.arrays.specs.searching.Place.{place_of}
use Rattle.cover_read.specs.chosen.Chosen.{run_of, rows_of}

-- ── columns that don't fall ──────────────────────────────────────────────────────────────────

pub level-drop : (low i : ℕ) (l : List ℕ) → level_above low l ≡ true → level_above low (drop i l) ≡ true
unfolding level_above
level-drop low zero l a = a
level-drop low (suc i) [] a = refl
level-drop low (suc i) (x ∷ xs) a =
    let p = both (leb low x) (level_above x xs) a in
    level-drop low i xs (level-lower low x xs (leb-true low x p.0) p.1)

from_place : (low c : ℕ) (l : List ℕ) → level_above low l ≡ true → level_above c (drop (place_of c l) l) ≡ true
unfolding level_above place_of
from_place low c [] a = refl
from_place low c (x ∷ xs) a =
    let p = both (leb low x) (level_above x xs) a in
    elim (tested (ltb x c)) [ inl e ↦ rw e (from_place x c xs p.1) | inr e ↦ rw (e, le-leb c x (ltb-false x c e)) p.1 ]

past-run : (c : ℕ) (l : List ℕ) → level_above c l ≡ true → level_above (suc c) (drop (run_of c l) l) ≡ true
unfolding level_above run_of
past-run c [] a = refl
past-run c (x ∷ xs) a =
    let p = both (leb c x) (level_above x xs) a in
    let h = leb-true c x p.0 in
    elim (tested (eqb x c)) [
      | inl e ↦ rw e (past-run c xs (level-lower c x xs h p.1))
      | inr e ↦ rw (e, le-leb (suc c) x (omega (arith, eqb-false x c e))) p.1
    ]

-- ── rows ─────────────────────────────────────────────────────────────────────────────────────

mem-under : (x low : ℕ) (l : List ℕ) → x < low → level_above low l ≡ true → mem x l ≡ false
unfolding level_above mem
mem-under x low [] h a = refl
mem-under x low (y ∷ ys) h a =
    let p = both (leb low y) (level_above y ys) a in
    let q = leb-true low y p.0 in
    rw (ne_eqb x y (omega arith)) (mem-under x y ys (omega arith) p.1)

module _ (c : ℕ) (cs : List ℕ) where
  rows-skip : (p : ℕ) (l : List ℕ) → level_above c cs ≡ true → rows_of (c ∷ cs) p l ≡ rows_of (c ∷ cs) (p + place_of c l) (drop (place_of c l) l)
  unfolding rows_of place_of mem
  rows-skip p [] a = refl
  rows-skip p (x ∷ xs) a =
      elim (tested (ltb x c)) [
        | inl e ↦ let h = ltb-true x c e in
            rw (e, ne_eqb x c (omega arith), mem-under x c cs h a, rows-skip (suc p) xs a) (ap (λ q. rows_of (c ∷ cs) q (drop (place_of c xs) xs)) (omega arith))
        | inr e ↦ rw (e, add-zero)
      ]

  rows_run : (p : ℕ) (l : List ℕ) → rows_of (c ∷ cs) p l ≡ up_from p (run_of c l) ++ rows_of (c ∷ cs) (p + run_of c l) (drop (run_of c l) l)
  unfolding rows_of run_of mem up_from
  rows_run p [] = refl
  rows_run p (x ∷ xs) =
      elim (tested (eqb x c)) [
        | inl e ↦ rw (e, rows_run (suc p) xs) (ap (λ q. p ∷ (up_from (suc p) (run_of c xs) ++ rows_of (c ∷ cs) q (drop (run_of c xs) xs))) (omega arith))
        | inr e ↦ rw (e, add-zero, e)
      ]

  rows-past : (p : ℕ) (l : List ℕ) → level_above (suc c) l ≡ true → rows_of (c ∷ cs) p l ≡ rows_of cs p l
  unfolding rows_of level_above mem
  rows-past p [] a = refl
  rows-past p (x ∷ xs) a =
      let q = both (leb (suc c) x) (level_above x xs) a in
      let h = leb-true (suc c) x q.0 in
      rw (ne_eqb x c (omega arith), rows-past (suc p) xs (level-lower (suc c) x xs h q.1))

  -- a chain's rows are the run that starts at its place; the rows of later chains stand past it
  pub rows-turn : (low p : ℕ) (l : List ℕ) → level_above c cs ≡ true → level_above low l ≡ true
      → rows_of (c ∷ cs) p l
      ≡ up_from (p + place_of c l) (run_of c (drop (place_of c l) l))
      ++ rows_of cs (p + place_of c l + run_of c (drop (place_of c l) l)) (drop (run_of c (drop (place_of c l) l)) (drop (place_of c l) l))
  rows-turn low p l a b =
      let s = drop (place_of c l) l in
      rows-skip p l a ∙ rows_run (p + place_of c l) s
      ∙ ap (λ r. up_from (p + place_of c l) (run_of c s) ++ r) (rows-past (p + place_of c l + run_of c s) (drop (run_of c s) s) (past-run c s (from_place low c l b)))

pub rows_none : (p : ℕ) (l : List ℕ) → rows_of [] p l ≡ []
unfolding rows_of mem
rows_none p [] = refl
rows_none p (x ∷ xs) = rows_none (suc p) xs

-- the chains may come in any order
pub rows-sorted : (chains : List ℕ) (p : ℕ) (l : List ℕ) → rows_of (sort chains) p l ≡ rows_of chains p l
unfolding rows_of
rows-sorted chains p [] = refl
rows-sorted chains p (x ∷ xs) = rw (mem-sort x chains, rows-sorted chains (suc p) xs)
