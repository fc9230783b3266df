-- Where a number stands in a column that doesn't fall, and the search that halves what is left.
use Rattle.std.proofs.Common.{◌≡◌, ℕ, zero, suc, ◌+◌, ◌-◌, ◌/◌, ◌<◌, ◌≤◌, true, false, ltb, leb, List, [], ◌∷◌, length, get_or, inl, inr, le_of_suc-le-suc, not-suc-le-zero, add-one, arith, ltb-false, ltb-true, le-ltb, lt-ltb, leb-true}
use Rattle.lists.specs.Order.{level_above, not_falling}
use Rattle.lists.proofs.Tests.{tested, both}
use Rattle.std.proofs.lemmas.Grind.{get_or_default_zero}
use Rattle.std.specs.List.Sorted.{IsNonDecreasing, IsPartitionPoint}
use Rattle.arrays.specs.searching.Place.{place_of}

-- ── columns that don't fall ──────────────────────────────────────────────────────────────────

pub level-get : (low : ℕ) (l : List ℕ) (i : ℕ) → level_above low l ≡ true → i < length l → low ≤ get_or l i 0
unfolding level_above
level-get low [] i a h = absurd (not-suc-le-zero h)
level-get low (x ∷ xs) zero a h = leb-true low x (both (leb low x) (level_above x xs) a).0
level-get low (x ∷ xs) (suc i) a h =
    let p = both (leb low x) (level_above x xs) a in
    let q = level-get x xs i p.1 (le_of_suc-le-suc h) in
    omega (arith, leb-true low x p.0)

-- ── places ───────────────────────────────────────────────────────────────────────────────────

pub place-le : (x : ℕ) (l : List ℕ) → place_of x l ≤ length l
unfolding place_of
place-le x [] = omega arith
place-le x (y ∷ ys) = elim (tested (ltb y x)) [ inl e ↦ rw e (omega (arith, place-le x ys)) | inr e ↦ rw e (omega arith) ]

-- what stands before a place is below the number
pub place-below : (x : ℕ) (l : List ℕ) (i : ℕ) → i < place_of x l → get_or l i 0 < x
unfolding place_of
place-below x [] i h = absurd (not-suc-le-zero h)
place-below x (y ∷ ys) zero h = elim (tested (ltb y x)) [ inl e ↦ ltb-true y x e | inr e ↦ absurd (not-suc-le-zero (rw e at h)) ]
place-below x (y ∷ ys) (suc i) h =
    elim (tested (ltb y x)) [ inl e ↦ place-below x ys i (le_of_suc-le-suc (rw e at h)) | inr e ↦ absurd (not-suc-le-zero (rw e at h)) ]

-- what stands at a place is not below the number
pub place-stands : (x : ℕ) (l : List ℕ) → place_of x l < length l → x ≤ get_or l (place_of x l) 0
unfolding place_of
place-stands x [] h = absurd (not-suc-le-zero h)
place-stands x (y ∷ ys) h =
    elim (tested (ltb y x)) [ inl e ↦ rw e (place-stands x ys (le_of_suc-le-suc (rw e at h))) | inr e ↦ rw e (ltb-false y x e) ]

above : (low x : ℕ) (l : List ℕ) (i : ℕ) → level_above low l ≡ true → i < length l → get_or l i 0 < x → i < place_of x l
unfolding level_above place_of
above low x [] i a h k = absurd (not-suc-le-zero h)
above low x (y ∷ ys) zero a h k = rw (lt-ltb y x k) (omega arith)
above low x (y ∷ ys) (suc i) a h k =
    let b = (both (leb low y) (level_above y ys) a).1 in
    let p = level-get y ys i b (le_of_suc-le-suc h) in
    rw (lt-ltb y x (omega arith)) (omega (arith, above y x ys i b (le_of_suc-le-suc h) k))

not-above : (x : ℕ) (l : List ℕ) (i : ℕ) → i < length l → x ≤ get_or l i 0 → place_of x l ≤ i
unfolding place_of
not-above x [] i h k = absurd (not-suc-le-zero h)
not-above x (y ∷ ys) zero h k = rw (le-ltb y x k) (omega arith)
not-above x (y ∷ ys) (suc i) h k =
    elim (tested (ltb y x)) [ inl e ↦ rw e (omega (arith, not-above x ys i (le_of_suc-le-suc h) k)) | inr e ↦ rw e (omega arith) ]

-- ── the search ───────────────────────────────────────────────────────────────────────────────

module _ (l : List ℕ) (x low high : ℕ) (h : low < high) (k : high ≤ length l) where
  pub go_right : (y : ℕ) → y < x → y ≡ get_or l (low + (high - low) / 2) 0 → not_falling l ≡ true → low + (high - low) / 2 + 1 ≤ place_of x l
  unfolding not_falling
  go_right y f e a = rw add-one (above 0 x l (low + (high - low) / 2) a (omega arith) (rw e at f))

  pub go_left : (y : ℕ) → x ≤ y → y ≡ get_or l (low + (high - low) / 2) 0 → place_of x l ≤ low + (high - low) / 2
  go_left y f e = not-above x l (low + (high - low) / 2) (omega arith) (rw e at f)

pub meet-there : (low high p : ℕ) → low ≤ p → p ≤ high → high ≤ low → low ≡ p
meet-there low high p h k g = omega arith

-- ── the place where the library's search parts a column ──────────────────────────────────────

rises : (low d : ℕ) (l : List ℕ) (i j : ℕ) → level_above low l ≡ true → i ≤ j → j < length l → get_or l i d ≤ get_or l j d
unfolding level_above
rises low d [] i j a h k = absurd (not-suc-le-zero k)
rises low d (x ∷ xs) zero zero a h k = omega arith
rises low d (x ∷ xs) zero (suc j) a h k =
    let p = both (leb low x) (level_above x xs) a in
    rw (get_or_default_zero xs j d (le_of_suc-le-suc k)) (level-get x xs j p.1 (le_of_suc-le-suc k))
rises low d (x ∷ xs) (suc i) zero a h k = absurd (not-suc-le-zero h)
rises low d (x ∷ xs) (suc i) (suc j) a h k = rises x d xs i j (both (leb low x) (level_above x xs) a).1 (le_of_suc-le-suc h) (le_of_suc-le-suc k)

pub never-falls : (l : List ℕ) → not_falling l ≡ true → IsNonDecreasing l
unfolding not_falling
never-falls l a = λ i j d h k. rises 0 d l i j a h k

pub at-place : (x : ℕ) (l : List ℕ) (i : ℕ) → i ≤ length l → IsPartitionPoint (λ y. ltb y x ≡ true) (λ y. ltb y x ≡ false) l i → i ≡ place_of x l
at-place x l i h p =
    elim (tested (ltb i (place_of x l))) [
      | inl e ↦
          let below = ltb-true i (place_of x l) e in
          let most = place-le x l in
          absurd (omega (arith, place-below x l i below, ltb-false (get_or l i 0) x (p.1 i 0 (omega arith) (omega arith))))
      | inr e ↦ elim (tested (ltb (place_of x l) i)) [
        | inl f ↦
            let above = ltb-true (place_of x l) i f in
            absurd (omega (arith, place-stands x l (omega arith), ltb-true (get_or l (place_of x l) 0) x (p.0 (place_of x l) 0 (omega arith) above)))
        | inr f ↦ omega (arith, ltb-false i (place_of x l) e, ltb-false (place_of x l) i f)
      ]
    ]
