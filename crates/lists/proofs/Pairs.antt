-- Two lists that agree place by place are mapped to the same list.
use mathlib.Core.Path.{◌≡◌, refl, ap₂}
use mathlib.Core.List.{List, [], ◌∷◌, map}
use Prim.Native.Nat.{ℕ, zero, suc, ◌+◌, ◌≤◌, ◌<◌}
use native.Mathlib.Omega.{arith}
use Rattle.lists.specs.Lists.{Each, Pairs, up_from}
use Rattle.lists.proofs.Each.{each-imp}

pub pairs-map : {A B C : Type 0} (R : A → B → Type 0) (f : A → C) (g : B → C) → ((x : A) (y : B) → R x y → f x ≡ g y)
    → (xs : List A) (ys : List B) → Pairs R xs ys → map f xs ≡ map g ys
pairs-map R f g h [] [] p = refl
pairs-map R f g h [] (y ∷ ys) p = absurd p
pairs-map R f g h (x ∷ xs) [] p = absurd p
pairs-map R f g h (x ∷ xs) (y ∷ ys) p = ap₂ (λ a b. a ∷ b) (h x y p.0) (pairs-map R f g h xs ys p.1)

-- the numbers from i on, n of them, are from i up to i + n
pub each-up_from : (i n : ℕ) → Each (λ k. (i ≤ k) × (k < i + n)) (up_from i n)
unfolding up_from
each-up_from i zero = tt
each-up_from i (suc n) =
    ((omega arith, omega arith), each-imp (λ k. (suc i ≤ k) × (k < suc i + n)) (λ k. (i ≤ k) × (k < i + suc n)) (up_from (suc i) n) (λ k h. (omega arith, omega arith)) (each-up_from (suc i) n))
