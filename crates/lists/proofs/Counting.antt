-- Counting by sums: sums in another order, and how many of some numbers pass a test.
use mathlib.Core.Path.{◌≡◌, refl, ap, sym}
use mathlib.Core.Bool.{Bool, true, false, ◌||◌}
use mathlib.Core.Logic.{inl, inr}
use mathlib.Core.List.{List, [], ◌∷◌}
use Prim.Native.Nat.{ℕ, zero, suc, ◌+◌, ◌≤◌, ◌<◌}
use native.Mathlib.Omega.{arith}
use borrow.Author.Tests.{eqb-true, ne_eqb}
use lib.Dec.{eqb}
use lib.ListN.{length}
use Rattle.lists.specs.Lists.{filter, mem, sum, up_from}
use Rattle.lists.proofs.Tests.{tested}
use Rattle.lists.proofs.Each.{each-imp, each_all}
use Rattle.lists.proofs.Pairs.{each-up_from}
use Rattle.lists.proofs.Sums.{sum-le, sum-ext, sum_both}

-- ── sums ─────────────────────────────────────────────────────────────────────────────────────

pub sum-zero : {A : Type 0} (xs : List A) → sum (λ x. 0) xs ≡ 0
unfolding sum
sum-zero [] = refl
sum-zero (x ∷ xs) = omega (arith, sum-zero xs)

module _ {A : Type 0} where
  pub sum_ones : (xs : List A) → sum (λ x. 1) xs ≡ length xs
  unfolding sum
  sum_ones [] = refl
  sum_ones (x ∷ xs) = omega (arith, sum_ones xs)

  pub sum-swap : {B : Type 0} (f : A → B → ℕ) (xs : List A) (ys : List B) → sum (λ x. sum (f x) ys) xs ≡ sum (λ y. sum (λ x. f x y) xs) ys
  unfolding sum
  sum-swap f [] ys = sym (sum-zero ys)
  sum-swap f (x ∷ xs) ys = omega (arith, sum_both (f x) (λ y. sum (λ z. f z y) xs) ys, sum-swap f xs ys)

module _ {A : Type 0} (f g : A → ℕ) where
  pub sum_below : ((x : A) → f x ≤ g x) → (xs : List A) → sum f xs ≤ sum g xs
  sum_below h xs = sum-le f g xs (each_all (λ x. f x ≤ g x) h xs)

  pub sum-equal : ((x : A) → f x ≡ g x) → (xs : List A) → sum f xs ≡ sum g xs
  sum-equal h xs = sum-ext f g xs (each_all (λ x. f x ≡ g x) h xs)

-- ── tests counted ────────────────────────────────────────────────────────────────────────────

abbrev pub bit : Bool → ℕ
bit true = 1
bit false = 0

pub length-filter : {A : Type 0} (p : A → Bool) (xs : List A) → length (filter p xs) ≡ sum (λ x. bit (p x)) xs
unfolding sum filter
length-filter p [] = refl
length-filter p (x ∷ xs) = elim (tested (p x)) [ inl e ↦ rw e (omega (arith, length-filter p xs)) | inr e ↦ rw e (omega (arith, length-filter p xs)) ]

-- a test that no number after one that passes passes
pub at_most_one : (t : ℕ → Bool) → ((j k : ℕ) → t j ≡ true → j < k → t k ≡ false) → (i m : ℕ) → sum (λ j. bit (t j)) (up_from i m) ≤ 1
unfolding sum up_from
at_most_one t h i zero = omega arith
at_most_one t h i (suc m) = elim (tested (t i)) [
  | inl e ↦ let None-more : sum (λ j. bit (t j)) (up_from (suc i) m) ≡ sum (λ j. 0) (up_from (suc i) m) =
      sum-ext (λ j. bit (t j)) (λ j. 0) (up_from (suc i) m)
      (each-imp (λ j. (suc i ≤ j) × (j < suc i + m)) (λ j. bit (t j) ≡ 0) (up_from (suc i) m) (λ j w. ap bit (h i j e w.0)) (each-up_from (suc i) m)) in
      rw e (omega (arith, None-more, sum-zero (up_from (suc i) m)))
  | inr e ↦ rw e (omega (arith, at_most_one t h (suc i) m))
]

one_number : (x i m : ℕ) → sum (λ n. bit (eqb n x)) (up_from i m) ≤ 1
one_number x i m = at_most_one (λ n. eqb n x) (λ j k e l. ne_eqb k x (λ d. omega (arith, eqb-true j x e))) i m

-- a number is one of some at most once
pub equal-once : (x i m : ℕ) → sum (λ n. bit (eqb x n)) (up_from i m) ≤ 1
equal-once x i m = at_most_one (λ n. eqb x n) (λ j k e l. ne_eqb x k (λ d. omega (arith, eqb-true x j e))) i m

either : (a b : Bool) → bit (a || b) ≤ bit a + bit b
either true b = omega arith
either false b = omega arith

-- no more numbers are members than the list is long
pub members-counted : (l : List ℕ) (i m : ℕ) → sum (λ n. bit (mem n l)) (up_from i m) ≤ length l
unfolding mem
members-counted [] i m = omega (arith, sum-zero (up_from i m))
members-counted (x ∷ xs) i m =
    omega (
      arith,
      sum_below (λ n. bit (eqb n x || mem n xs)) (λ n. bit (eqb n x) + bit (mem n xs)) (λ n. either (eqb n x) (mem n xs)) (up_from i m),
      sum_both (λ n. bit (eqb n x)) (λ n. bit (mem n xs)) (up_from i m),
      one_number x i m,
      members-counted xs i m,
    )
