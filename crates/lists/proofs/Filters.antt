-- Joined and filtered lists: what each part keeps. Numbers below a bound, and a list out of its places.
use mathlib.Core.Path.{◌≡◌, refl, ap, ap₂, sym, ◌∙◌}
use mathlib.Core.Bool.{Bool, true, false}
use mathlib.Core.Logic.{inl, inr}
use mathlib.Core.List.{List, [], ◌∷◌, ◌++◌, map}
use Prim.Native.Nat.{ℕ, suc, ◌+◌, ◌≤◌, ◌<◌}
use native.Mathlib.Omega.{arith}
use native.Mathlib.Nat.{add-zero}
use lib.ListN.{length, get_or}
use Rattle.lists.specs.Lists.{filter, up_from, Each}
use Rattle.lists.proofs.Tests.{tested}
use Rattle.lists.proofs.Each.{each-imp}
use Rattle.lists.proofs.Pairs.{each-up_from}

-- ── joined lists ─────────────────────────────────────────────────────────────────────────────

module _ {A : Type 0} (P : A → Type 0) where
  pub each_left : (s t : List A) → Each P (s ++ t) → Each P s
  each_left [] t h = tt
  each_left (x ∷ s) t h = (h.0, each_left s t h.1)

  pub each_right : (s t : List A) → Each P (s ++ t) → Each P t
  each_right [] t h = h
  each_right (x ∷ s) t h = each_right s t h.1

-- ── filters ──────────────────────────────────────────────────────────────────────────────────

module _ {A : Type 0} (p : A → Bool) where
  pub each-filter : (P : A → Type 0) (xs : List A) → Each P xs → Each P (filter p xs)
  unfolding filter
  each-filter P [] h = tt
  each-filter P (x ∷ xs) h = elim (tested (p x)) [ inl e ↦ rw e (h.0, each-filter P xs h.1) | inr e ↦ rw e (each-filter P xs h.1) ]

  pub filter_passes : (xs : List A) → Each (λ x. p x ≡ true) (filter p xs)
  unfolding filter
  filter_passes [] = tt
  filter_passes (x ∷ xs) = elim (tested (p x)) [ inl e ↦ rw e (e, filter_passes xs) | inr e ↦ rw e (filter_passes xs) ]

  pub filter_none : (xs : List A) → Each (λ x. p x ≡ false) xs → filter p xs ≡ []
  unfolding filter
  filter_none [] h = refl
  filter_none (x ∷ xs) h = rw h.0 (filter_none xs h.1)

  pub filter-all : (xs : List A) → Each (λ x. p x ≡ true) xs → filter p xs ≡ xs
  unfolding filter
  filter-all [] h = refl
  filter-all (x ∷ xs) h = rw h.0 (ap (λ ys. x ∷ ys) (filter-all xs h.1))

  pub filter-append : (xs ys : List A) → filter p (xs ++ ys) ≡ filter p xs ++ filter p ys
  unfolding filter
  filter-append [] ys = refl
  filter-append (x ∷ xs) ys = elim (tested (p x)) [ inl e ↦ rw (e, filter-append xs ys) | inr e ↦ rw e (filter-append xs ys) ]

-- ── numbers ──────────────────────────────────────────────────────────────────────────────────

-- what holds of each number below n
pub each_below : (P : ℕ → Type 0) (n : ℕ) → ((i : ℕ) → i < n → P i) → Each P (up_from 0 n)
each_below P n f = each-imp (λ i. (0 ≤ i) × (i < 0 + n)) P (up_from 0 n) (λ i w. f i (omega arith)) (each-up_from 0 n)

-- ── places ───────────────────────────────────────────────────────────────────────────────────

-- what is made of the numbers from i on is a list where it is at each place
pub map-places : {A : Type 0} (f : ℕ → A) (i : ℕ) (xs : List A) (d : A) → ((j : ℕ) → j < length xs → f (i + j) ≡ get_or xs j d)
    → map f (up_from i (length xs)) ≡ xs
unfolding up_from
map-places f i [] d h = refl
map-places f i (x ∷ xs) d h =
    ap₂ (λ y ys. y ∷ ys) (ap f (sym (add-zero i)) ∙ h 0 (omega arith))
    (map-places f (suc i) xs d (λ j l. let e : suc i + j ≡ i + suc j = omega arith in ap f e ∙ h (suc j) (omega arith)))
