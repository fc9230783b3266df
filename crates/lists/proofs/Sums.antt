-- Figures summed over lists: sums of lists mapped, joined, filtered, and of smaller figures.
use mathlib.Core.Path.{◌≡◌, refl}
use mathlib.Core.Bool.{Bool}
use mathlib.Core.Logic.{inl, inr}
use mathlib.Core.List.{List, [], ◌∷◌, map}
use Prim.Native.Nat.{ℕ, ◌+◌, ◌≤◌}
use native.Mathlib.Omega.{arith}
use Rattle.lists.specs.Lists.{flat, filter, sum, Each}
use Rattle.lists.proofs.Tests.{tested}
use Rattle.lists.proofs.Flat.{sum-append}

module _ {A : Type 0} where
  pub sum-filter : (f : A → ℕ) (p : A → Bool) (xs : List A) → sum f (filter p xs) ≤ sum f xs
  unfolding sum filter
  sum-filter f p [] = omega arith
  sum-filter f p (x ∷ xs) = elim (tested (p x)) [
    | inl e ↦ rw e (omega (arith, sum-filter f p xs))
    | inr e ↦ rw e (omega (arith, sum-filter f p xs))
  ]

  pub sum-le : (f g : A → ℕ) (xs : List A) → Each (λ x. f x ≤ g x) xs → sum f xs ≤ sum g xs
  unfolding sum
  sum-le f g [] h = omega arith
  sum-le f g (x ∷ xs) h = omega (arith, h.0, sum-le f g xs h.1)

  pub sum-ext : (f g : A → ℕ) (xs : List A) → Each (λ x. f x ≡ g x) xs → sum f xs ≡ sum g xs
  unfolding sum
  sum-ext f g [] h = refl
  sum-ext f g (x ∷ xs) h = omega (arith, h.0, sum-ext f g xs h.1)

  pub sum_both : (f g : A → ℕ) (xs : List A) → sum (λ x. f x + g x) xs ≡ sum f xs + sum g xs
  unfolding sum
  sum_both f g [] = refl
  sum_both f g (x ∷ xs) = omega (arith, sum_both f g xs)

  pub sum-map : {B : Type 0} (f : B → ℕ) (g : A → B) (xs : List A) → sum f (map g xs) ≡ sum (λ x. f (g x)) xs
  unfolding sum
  sum-map f g [] = refl
  sum-map f g (x ∷ xs) = rw (sum-map f g xs)

  pub sum-flat : {B : Type 0} (f : B → ℕ) (g : A → List B) (xs : List A) → sum f (flat g xs) ≡ sum (λ x. sum f (g x)) xs
  unfolding sum
  sum-flat f g [] = refl
  sum-flat f g (x ∷ xs) = omega (arith, sum-append f (g x) (flat g xs), sum-flat f g xs)
