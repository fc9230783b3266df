-- Ranges stored one after the other in a table: one turn of the loop.
use mathlib.Core.Path.{◌≡◌, ◌∙◌}
use mathlib.Core.List.{List, map}
use Prim.Native.Nat.{ℕ, suc, ◌+◌, ◌-◌, ◌*◌, ◌≤◌, ◌<◌}
use native.Mathlib.Numerals.{add-one}
use native.Mathlib.Omega.{arith}
use lib.ListN.{get_or, set}
use Rattle.lists.specs.Lists.{up_from}
use Rattle.run_section.specs.declared.covers.Ranges.{Ranges}
use Rattle.run_section.specs.Covers.{range_in, ranges_in, laid}

module _ (r : Ranges) (at : ℕ) (t : List ℕ) where
  -- the ranges from range i on, stored behind the first i
  unfoldable pub laid_from : ℕ → List ℕ
  laid_from i = laid (at + i) (map (range_in r) (up_from i (r.count - i))) t

  pub laid-start : laid at (ranges_in r) t ≡ laid_from 0
  unfolding laid_from ranges_in
  laid-start = let e : at + 0 ≡ at = omega arith in let f : r.count - 0 ≡ r.count = omega arith in rw (e, f)

  pub laid-all : {w : List ℕ} (i : ℕ) → w ≡ laid_from i → r.count ≤ i → t ≡ w
  unfolding laid_from laid up_from
  laid-all i e h = let f : r.count - i ≡ 0 = omega arith in rw (e, f)

pub laid-turn : {w : List ℕ} (r : Ranges) (at : ℕ) (t : List ℕ) (i p : ℕ) → w ≡ laid_from r at t i → i < r.count → p ≡ 3 * (at + i)
    → w ≡ laid_from r at (set (set (set t p (get_or r.ids i 0)) (p + 1) (get_or r.minima i 0)) (p + 2) (get_or r.maxima i 0)) (i + 1)
unfolding laid_from laid range_in up_from
laid-turn r at t i p e h q =
    let d : r.count - i ≡ suc (r.count - suc i) = omega arith in
    let b : p + 2 ≡ suc (suc p) = omega arith in
    let f : 3 * (at + suc i) ≡ suc (suc (suc p)) = omega arith in
    e ∙ rw (d, ← q, add-one i, add-one p, b, f)
