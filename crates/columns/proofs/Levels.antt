-- A walk's levels: together no more numbers than the limit, each level rising and with a number, and a bound on their count that cuts none off.
use mathlib.Core.Path.{◌≡◌, refl, sym}
use mathlib.Core.Bool.{true, false, not, true≢false}
use mathlib.Core.Logic.{inl, inr}
use mathlib.Core.List.{List, [], ◌∷◌, ◌++◌}
use Prim.Native.Nat.{ℕ, zero, suc, ◌-◌, ◌≤◌, ◌<◌}
use native.Mathlib.Omega.{arith}
use lib.ListN.{length, length-take}
use Rattle.lists.specs.Lists.{flat, filter, mem, once, is_empty, sum, Each}
use Rattle.lists.specs.Order.{rising, sort}
use Rattle.lists.proofs.Tests.{tested}
use Rattle.lists.proofs.Once.{mem-folded, distinct-once}
use Rattle.lists.proofs.Rising.{take-rising, cut_below, mem-filter, mem-sort, sort-rising}
use Rattle.columns.specs.Walk.{level, levels_from, levels, walked}
use Rattle.columns.specs.Computes.{computes}

not-empty : {A : Type 0} (l : List A) → is_empty l ≡ false → 0 < length l
unfolding is_empty
not-empty [] e = absurd (true≢false e)
not-empty (x ∷ xs) e = omega arith

-- a level worked out: of two parents that were not visited, with one number left of the limit, the smaller stays
smallest-stays : level (λ n. 100 ∷ 95 ∷ []) 1 [] (101 ∷ []) ≡ 95 ∷ []
unfolding computes
smallest-stays = refl

module _ (parents_of : ℕ → List ℕ) where
  -- ── one level ──────────────────────────────────────────────────────────────────────────────

  level-short : (limit : ℕ) (visited frontier : List ℕ) → length (level parents_of limit visited frontier) ≤ limit
  unfolding level
  level-short limit visited frontier = rw length-take (omega arith)

  pub level-rising : (limit : ℕ) (visited frontier : List ℕ) → rising (level parents_of limit visited frontier) ≡ true
  unfolding level
  level-rising limit visited frontier =
      let new = filter (λ n. not (mem n visited)) (flat parents_of frontier) in
      take-rising limit (sort (once new)) (sort-rising (once new) (distinct-once new))

  -- past the limit only the smallest stay: a parent that was not visited and is not handed out is above all that are
  pub level-smallest : (limit : ℕ) (visited frontier : List ℕ) (x y : ℕ) → mem x (level parents_of limit visited frontier) ≡ true
      → mem y (flat parents_of frontier) ≡ true → mem y visited ≡ false → mem y (level parents_of limit visited frontier) ≡ false → x < y
  unfolding level once
  level-smallest limit visited frontier x y i m v o =
      let new = filter (λ n. not (mem n visited)) (flat parents_of frontier) in
      let k : mem y new ≡ true = rw (mem-filter y (λ n. not (mem n visited)) (flat parents_of frontier), m, v) in
      cut_below limit (sort (once new)) x y (sort-rising (once new) (distinct-once new)) i (rw (mem-sort y (once new)) (mem-folded [] new y k)) o

  -- ── all levels ─────────────────────────────────────────────────────────────────────────────

  from-count : (bound limit : ℕ) (visited frontier : List ℕ) → sum length (levels_from parents_of bound limit visited frontier) ≤ limit
  unfolding levels_from sum
  from-count zero limit visited frontier = omega arith
  from-count (suc bound) limit visited frontier =
      let found = level parents_of limit visited frontier in
      elim (tested (is_empty found)) [
        | inl e ↦ rw e (omega arith)
        | inr e ↦ rw e (omega (arith, level-short limit visited frontier, from-count bound (limit - length found) (visited ++ found) found))
      ]

  -- a walk hands out no more numbers than its limit
  pub walk-count : (limit start : ℕ) → (walked (levels parents_of limit start)).count ≤ limit
  unfolding walked levels
  walk-count limit start = from-count limit limit (start ∷ []) (start ∷ [])

  from-levels : (bound limit : ℕ) (visited frontier : List ℕ)
      → Each (λ l. (is_empty l ≡ false) × (rising l ≡ true)) (levels_from parents_of bound limit visited frontier)
  unfolding levels_from
  from-levels zero limit visited frontier = tt
  from-levels (suc bound) limit visited frontier =
      let found = level parents_of limit visited frontier in
      elim (tested (is_empty found)) [
        | inl e ↦ rw e tt
        | inr e ↦ rw e ((e, level-rising limit visited frontier), from-levels bound (limit - length found) (visited ++ found) found)
      ]

  -- every level has a number and rises
  pub walk-levels : (limit start : ℕ) → Each (λ l. (is_empty l ≡ false) × (rising l ≡ true)) (levels parents_of limit start)
  unfolding levels
  walk-levels limit start = from-levels limit limit (start ∷ []) (start ∷ [])

  pub walk-nothing : (start : ℕ) → levels parents_of 0 start ≡ []
  unfolding levels levels_from
  walk-nothing start = refl

  -- ── the bound ──────────────────────────────────────────────────────────────────────────────

  level-none : (visited frontier : List ℕ) → is_empty (level parents_of 0 visited frontier) ≡ true
  unfolding level is_empty
  level-none visited frontier = refl

  from-none : (bound : ℕ) (visited frontier : List ℕ) → levels_from parents_of bound 0 visited frontier ≡ []
  unfolding levels_from
  from-none zero visited frontier = refl
  from-none (suc bound) visited frontier = rw (level-none visited frontier)

  -- a bound of the limit or more cuts no level off
  pub bound-enough : (bound more limit : ℕ) (visited frontier : List ℕ) → limit ≤ bound → limit ≤ more
      → levels_from parents_of bound limit visited frontier ≡ levels_from parents_of more limit visited frontier
  unfolding levels_from
  bound-enough zero more limit visited frontier h k = let e : limit ≡ 0 = omega arith in rw e (sym (from-none more visited frontier))
  bound-enough (suc bound) zero limit visited frontier h k = let e : limit ≡ 0 = omega arith in rw e (from-none (suc bound) visited frontier)
  bound-enough (suc bound) (suc more) limit visited frontier h k =
      let found = level parents_of limit visited frontier in
      elim (tested (is_empty found)) [
        | inl e ↦ rw e
        | inr e ↦ let n = not-empty found e in rw (e, bound-enough bound more (limit - length found) (visited ++ found) found (omega arith) (omega arith))
      ]
