-- A property of the elements of a list and their numbers, which count up from one on.
use mathlib.Core.Path.{◌≡◌, subst}
use mathlib.Core.List.{List, [], ◌∷◌, ◌++◌}
use Prim.Native.Nat.{ℕ, zero, suc, ◌+◌, ◌≤◌, ◌<◌}
use native.Mathlib.Omega.{arith}
use native.Mathlib.Nat.{not-suc-le-zero, le_of_suc-le-suc}
use lib.ListN.{length, get_or}
use Rattle.lists.specs.Lists.{Each}

abbrev pub EachFrom : {A : Type 0} → (ℕ → A → Type 0) → ℕ → List A → Type 0
EachFrom P n [] = Unit {0}
EachFrom P n (x ∷ xs) = P n x × EachFrom P (suc n) xs

module _ {A : Type 0} (P : ℕ → A → Type 0) where
  -- the number that elements are counted from, written another way
  pub from-eq : (n m : ℕ) (xs : List A) → n ≡ m → EachFrom P n xs → EachFrom P m xs
  from-eq n m xs e h = subst (λ i. EachFrom P i xs) e h

  pub from-append : (n : ℕ) (xs ys : List A) → EachFrom P n xs → EachFrom P (n + length xs) ys → EachFrom P n (xs ++ ys)
  from-append n [] ys h g = from-eq (n + 0) n ys (omega arith) g
  from-append n (x ∷ xs) ys h g = (h.0, from-append (suc n) xs ys h.1 (from-eq (n + suc (length xs)) (suc n + length xs) ys (omega arith) g))

  pub from-get_or : (n : ℕ) (xs : List A) (i : ℕ) (d : A) → EachFrom P n xs → i < length xs → P (n + i) (get_or xs i d)
  from-get_or n [] i d h l = absurd (not-suc-le-zero l)
  from-get_or n (x ∷ xs) zero d h l = subst (λ j. P j x) {x = n} {y = n + 0} (omega arith) h.0
  from-get_or n (x ∷ xs) (suc i) d h l =
      subst (λ j. P j (get_or xs i d)) {x = suc n + i} {y = n + suc i} (omega arith) (from-get_or (suc n) xs i d h.1 (le_of_suc-le-suc l))

  pub from-imp : (Q : ℕ → A → Type 0) (n : ℕ) (xs : List A) → ((i : ℕ) (x : A) → P i x → Q i x) → EachFrom P n xs → EachFrom Q n xs
  from-imp Q n [] f h = tt
  from-imp Q n (x ∷ xs) f h = (f n x h.0, from-imp Q (suc n) xs f h.1)

  -- numbers from n up to m
  pub from_each : (Q : A → Type 0) (m n : ℕ) (xs : List A) → ((i : ℕ) (x : A) → n ≤ i → i < m → Q x → P i x) → n + length xs ≤ m → Each Q xs → EachFrom P n xs
  from_each Q m n [] f l h = tt
  from_each Q m n (x ∷ xs) f l h =
      (f n x (omega arith) (omega arith) h.0, from_each Q m (suc n) xs (λ i y a b q. f i y (omega arith) b q) (omega arith) h.1)
