-- Places in columns that do not fall: the elements of a range of figures stand together, from the place of its low end up to that of its high end.
use mathlib.Core.Path.{◌≡◌, refl, ap}
use mathlib.Core.Bool.{Bool, true, false, cond, not}
use mathlib.Core.Logic.{◌⊎◌, inl, inr}
use mathlib.Core.List.{List, [], ◌∷◌, ◌++◌, map}
use Prim.Native.Nat.{ℕ, zero, suc, ◌+◌, ◌-◌, ◌≤◌, ◌<◌}
use native.Mathlib.Omega.{arith}
use lib.Dec.{leb, ltb, eqb}
use lib.ListN.{length, take, drop}
use lib.Seq.{take-add, drop-drop}
use borrow.Author.Tests.{ltb-true, ltb-false, lt-ltb, le-ltb, leb-true, eq-eqb, ne_eqb}
use Rattle.lists.specs.Lists.{flat, filter, part, up_from}
use Rattle.lists.specs.Order.{level_above, not_falling}
use Rattle.lists.proofs.Tests.{tested, both}
use Rattle.cleaning.specs.Sections.{place, between}

-- ── where a number stands ────────────────────────────────────────────────────────────────────

place-past : (n low : ℕ) (xs : List ℕ) → level_above low xs ≡ true → n ≤ low → place n xs ≡ 0
unfolding place filter level_above
place-past n low [] h l = refl
place-past n low (x ∷ xs) h l =
    let q = both (leb low x) (level_above x xs) h in
    let m : n ≤ x = omega (arith, leb-true low x q.0) in
    rw (le-ltb x n m) (place-past n x xs q.1 m)

place_none : (n x : ℕ) (xs : List ℕ) → level_above x xs ≡ true → n ≤ x → place n (x ∷ xs) ≡ 0
unfolding place filter
place_none n x xs h l = rw (le-ltb x n l) (place-past n x xs h l)

place_here : (n x : ℕ) (xs : List ℕ) → x < n → place n (x ∷ xs) ≡ suc (place n xs)
unfolding place filter
place_here n x xs l = rw (lt-ltb x n l)

pub place-within : (n : ℕ) (xs : List ℕ) → place n xs ≤ length xs
unfolding place filter
place-within n [] = omega arith
place-within n (x ∷ xs) = elim (tested (ltb x n)) [ inl e ↦ rw e (omega (arith, place-within n xs)) | inr e ↦ rw e (omega (arith, place-within n xs)) ]

pub place-rises : (n m : ℕ) (xs : List ℕ) → n ≤ m → place n xs ≤ place m xs
unfolding place filter
place-rises n m [] l = omega arith
place-rises n m (x ∷ xs) l = elim (tested (ltb x n)) [
  | inl e ↦ rw (e, lt-ltb x m (omega (arith, ltb-true x n e))) (omega (arith, place-rises n m xs l))
  | inr e ↦ elim (tested (ltb x m)) [
    | inl f ↦ rw (e, f) (omega (arith, place-rises n m xs l))
    | inr f ↦ rw (e, f) (place-rises n m xs l)
  ]
]

-- ── ranges ───────────────────────────────────────────────────────────────────────────────────

module _ {A : Type 0} (f : A → ℕ) (q : A → Bool) (low high : ℕ) (l : low ≤ high) (under : (x : A) → f x < low → q x ≡ false)
    (inside : (x : A) → low ≤ f x → f x < high → q x ≡ true) (over : (x : A) → high ≤ f x → q x ≡ false) where
  cut : (least : ℕ) (xs : List A) → level_above least (map f xs) ≡ true → filter q xs ≡ between f low high xs
  unfolding filter between part place level_above
  cut least [] h = refl
  cut least (x ∷ xs) h = go (tested (ltb (f x) low)) (tested (ltb (f x) high)) (cut (f x) xs r)
    where
      r : level_above (f x) (map f xs) ≡ true
      r = (both (leb least (f x)) (level_above (f x) (map f xs)) h).1

      a : ℕ
      a = place low (map f xs)

      b : ℕ
      b = place high (map f xs)

      go : (ltb (f x) low ≡ true) ⊎ (ltb (f x) low ≡ false) → (ltb (f x) high ≡ true) ⊎ (ltb (f x) high ≡ false) → filter q xs ≡ take (b - a) (drop a xs)
          → filter q (x ∷ xs) ≡ take (place high (f x ∷ map f xs) - place low (f x ∷ map f xs)) (drop (place low (f x ∷ map f xs)) (x ∷ xs))
      go (inl t) u ih =
          let m = ltb-true (f x) low t in
          let e : suc b - suc a ≡ b - a = omega arith in
          rw (under x m, place_here low (f x) (map f xs) m, place_here high (f x) (map f xs) (omega arith), e) ih
      go (inr t) (inl u) ih =
          let m = ltb-false (f x) low t in
          let o = ltb-true (f x) high u in
          let e : suc b - 0 ≡ suc b = omega arith in
          let d : b - 0 ≡ b = omega arith in
          rw (inside x m o, place_none low (f x) (map f xs) r m, place_here high (f x) (map f xs) o, e)
          (ap (λ ys. x ∷ ys) (rw (place-past low (f x) (map f xs) r m, d) at ih))
      go (inr t) (inr u) ih =
          let m = ltb-false (f x) high u in
          rw (over x m, place_none low (f x) (map f xs) r (omega arith), place_none high (f x) (map f xs) r m)
          (rw (place-past low (f x) (map f xs) r (omega arith), place-past high (f x) (map f xs) r m) at ih)

  cut_out : (least : ℕ) (xs : List A) → level_above least (map f xs) ≡ true
      → filter (λ x. not (q x)) xs ≡ take (place low (map f xs)) xs ++ drop (place high (map f xs)) xs
  unfolding filter place level_above
  cut_out least [] h = refl
  cut_out least (x ∷ xs) h = go (tested (ltb (f x) low)) (tested (ltb (f x) high)) (cut_out (f x) xs r)
    where
      r : level_above (f x) (map f xs) ≡ true
      r = (both (leb least (f x)) (level_above (f x) (map f xs)) h).1

      rest : List A
      rest = filter (λ x. not (q x)) xs

      go : (ltb (f x) low ≡ true) ⊎ (ltb (f x) low ≡ false) → (ltb (f x) high ≡ true) ⊎ (ltb (f x) high ≡ false)
          → rest ≡ take (place low (map f xs)) xs ++ drop (place high (map f xs)) xs
          → cond (not (q x)) (x ∷ rest) rest ≡ take (place low (f x ∷ map f xs)) (x ∷ xs) ++ drop (place high (f x ∷ map f xs)) (x ∷ xs)
      go (inl t) u ih =
          let m = ltb-true (f x) low t in
          rw (under x m, place_here low (f x) (map f xs) m, place_here high (f x) (map f xs) (omega arith)) (ap (λ ys. x ∷ ys) ih)
      go (inr t) (inl u) ih =
          let m = ltb-false (f x) low t in
          let o = ltb-true (f x) high u in
          rw (inside x m o, place_none low (f x) (map f xs) r m, place_here high (f x) (map f xs) o) (rw (place-past low (f x) (map f xs) r m) at ih)
      go (inr t) (inr u) ih =
          let m = ltb-false (f x) high u in
          rw (over x m, place_none low (f x) (map f xs) r (omega arith), place_none high (f x) (map f xs) r m)
          (ap (λ ys. x ∷ ys) (rw (place-past low (f x) (map f xs) r (omega arith), place-past high (f x) (map f xs) r m) at ih))

  -- the elements of a range
  pub range : (xs : List A) → not_falling (map f xs) ≡ true → filter q xs ≡ between f low high xs
  unfolding not_falling
  range xs h = cut 0 xs h

  -- the elements outside it
  pub outside : (xs : List A) → not_falling (map f xs) ≡ true
      → filter (λ x. not (q x)) xs ≡ take (place low (map f xs)) xs ++ drop (place high (map f xs)) xs
  unfolding not_falling
  outside xs h = cut_out 0 xs h

-- the elements of a figure
pub range-one : {A : Type 0} (f : A → ℕ) (n : ℕ) (xs : List A) → not_falling (map f xs) ≡ true → filter (λ x. eqb (f x) n) xs ≡ between f n (suc n) xs
range-one f n xs h =
    range f (λ x. eqb (f x) n) n (suc n) (omega arith) (λ x l. ne_eqb (f x) n (omega arith)) (λ x l m. eq-eqb (f x) n (omega arith))
    (λ x l. ne_eqb (f x) n (omega arith)) xs h

-- the elements of other figures
pub outside-one : {A : Type 0} (f : A → ℕ) (n : ℕ) (xs : List A) → not_falling (map f xs) ≡ true
    → filter (λ x. not (eqb (f x) n)) xs ≡ take (place n (map f xs)) xs ++ drop (place (suc n) (map f xs)) xs
outside-one f n xs h =
    outside f (λ x. eqb (f x) n) n (suc n) (omega arith) (λ x l. ne_eqb (f x) n (omega arith)) (λ x l m. eq-eqb (f x) n (omega arith))
    (λ x l. ne_eqb (f x) n (omega arith)) xs h

-- ranges that follow one another
pub ranges-follow : {A : Type 0} (f : A → ℕ) (start : ℕ) (xs : List A) (i n : ℕ)
    → flat (λ j. between f (start + j) (suc (start + j)) xs) (up_from i n) ≡ between f (start + i) (start + (i + n)) xs
unfolding between part up_from
ranges-follow f start xs i zero =
    let e : start + (i + 0) ≡ start + i = omega arith in
    let d : place (start + i) (map f xs) - place (start + i) (map f xs) ≡ 0 = omega arith in
    rw (e, d)
ranges-follow f start xs i (suc n) =
    let e : start + (i + suc n) ≡ start + (suc i + n) = omega arith in
    let d : suc (start + i) ≡ start + suc i = omega arith in
    let a = place (start + i) (map f xs) in
    let b = place (start + suc i) (map f xs) in
    let c = place (start + (suc i + n)) (map f xs) in
    let ab : a ≤ b = place-rises (start + i) (start + suc i) (map f xs) (omega arith) in
    let bc : b ≤ c = place-rises (start + suc i) (start + (suc i + n)) (map f xs) (omega arith) in
    let q : c - a ≡ (b - a) + (c - b) = omega arith in
    let t : a + (b - a) ≡ b = omega arith in
    rw (e, d, q, take-add (b - a) (c - b) (drop a xs), drop-drop (b - a) a xs, t) (ap (λ ys. take (b - a) (drop a xs) ++ ys) (ranges-follow f start xs (suc i) n))

-- ── columns that rise ────────────────────────────────────────────────────────────────────────
