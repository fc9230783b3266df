-- A column that was written from its count on: its front is the front that was there and what was written.
use mathlib.Core.Path.{◌≡◌, refl, ◌∙◌, ap}
use mathlib.Core.Bool.{Bool, true, false, not}
use mathlib.Core.List.{List, [], ◌∷◌, ◌++◌, map, map-append}
use Prim.Native.Nat.{ℕ, zero, suc, ◌≤◌, ◌<◌, ◌+◌}
use native.Mathlib.Nat.{add-zero, add-suc, suc-add, zero-add}
use native.Mathlib.Omega.{arith}
use lib.Dec.{eqb}
use lib.ListN.{length, get_or, set, take, length-append, length-map, length-set}
use lib.Seq.{sets, sets-eq, length-take-le, take_at, get_or-set_same, get_or-set_other}
use Rattle.lists.specs.Lists.{up_from}
use Rattle.lists.proofs.Filters.{each_below, map-places}
use Rattle.lists.proofs.Flat.{map-ext, up_from-append}
use Rattle.run_store.specs.grow.Column.{bit}

module _ {A : Type 0} where
  pub sets-take : (vs l : List A) (i k : ℕ) → i + length vs ≡ k → k ≤ length l → take k (sets l i vs) ≡ take i l ++ vs
  sets-take vs l i k e h =
      let a : length (take i l ++ vs) ≡ k = length-append (take i l) vs ∙ omega (arith, length-take-le i l (omega arith)) in
      rw (sets-eq vs l i (omega arith)) (take_at (take i l ++ vs) _ k a)

  pub sets-before : (l : List A) (i : ℕ) (vs : List A) (j : ℕ) (d : A) → j < i → get_or (sets l i vs) j d ≡ get_or l j d
  sets-before l i [] j d h = refl
  sets-before l i (v ∷ vs) j d h = sets-before (set l i v) (suc i) vs j d (omega arith) ∙ get_or-set_other l i j v d (λ e. omega arith)

  pub sets-at : (l : List A) (i : ℕ) (vs : List A) (j : ℕ) (d : A) → j < length vs → i + length vs ≤ length l → get_or (sets l i vs) (i + j) d ≡ get_or vs j d
  sets-at l i [] j d h k = absurd (omega arith)
  sets-at l i (v ∷ vs) zero d h k = rw add-zero (sets-before (set l i v) (suc i) vs i d (omega arith) ∙ get_or-set_same l i v d (omega arith))
  sets-at l i (v ∷ vs) (suc j) d h k = rw (add-suc, ← suc-add) (sets-at (set l i v) (suc i) vs j d (omega arith) (simp length-set (omega arith)))

  pub get_or-map-in : {B : Type 0} (f : B → A) (l : List B) (j : ℕ) (e : A) (d : B) → j < length l → get_or (map f l) j e ≡ f (get_or l j d)
  get_or-map-in f [] j e d h = absurd (omega arith)
  get_or-map-in f (x ∷ l) zero e d h = refl
  get_or-map-in f (x ∷ l) (suc j) e d h = get_or-map-in f l j e d (omega arith)

  -- what stands at n places, and xs after them
  pub listed-grown : (f g : ℕ → A) (n : ℕ) (xs : List A) (d : A) → ((i : ℕ) → i < n → f i ≡ g i) → ((j : ℕ) → j < length xs → f (n + j) ≡ get_or xs j d)
      → map f (up_from 0 (n + length xs)) ≡ map g (up_from 0 n) ++ xs
  listed-grown f g n xs d h k =
      ap (map f) (up_from-append 0 n (length xs)) ∙ map-append f (up_from 0 n) (up_from (0 + n) (length xs))
      ∙ ap (λ r. r ++ map f (up_from (0 + n) (length xs))) (map-ext f g (up_from 0 n) (each_below (λ i. f i ≡ g i) n h))
      ∙ ap (λ r. map g (up_from 0 n) ++ r) (ap (λ i. map f (up_from i (length xs))) (zero-add n) ∙ map-places f n xs d k)

-- one part of things as a column of numbers
pub column-at : {A : Type 0} (f : A → ℕ) (l : List ℕ) (n : ℕ) (xs : List A) (j : ℕ) (d : A) → j < length xs → n + length xs ≤ length l
    → get_or (sets l n (map f xs)) (n + j) 0 ≡ f (get_or xs j d)
column-at f l n xs j d h k = sets-at l n (map f xs) j 0 (rw (length-map xs f) h) (rw (length-map xs f) k) ∙ get_or-map-in f xs j 0 d h

pub flag-back : (b : Bool) → not (eqb (bit b) 0) ≡ b
flag-back true = refl
flag-back false = refl
