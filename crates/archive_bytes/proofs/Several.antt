-- Numbers and other things one after the other in bytes.
use mathlib.Core.Path.{◌≡◌, refl, ◌∙◌, ap}
use mathlib.Core.List.{List, [], ◌∷◌, map}
use Prim.Native.Nat.{ℕ, zero, suc, ◌≤◌, ◌<◌, ◌+◌, ◌-◌}
use native.Mathlib.Nat.{add-zero}
use native.Mathlib.Omega.{arith}
use lib.ListN.{drop}
use lib.Seq.{drop-drop, get_or-drop}
use Rattle.archive_bytes.specs.Bytes.{be, several}

-- a number from place p on is the number at the front of what is left there
pub be-drop : (w : ℕ) (l : List ℕ) (p q : ℕ) → be w (drop p l) q ≡ be w l (p + q)
unfolding be
be-drop zero l p q = refl
be-drop (suc w) l p q = let z : p + (q + w) ≡ p + q + w = omega arith in rw (be-drop w l p q, get_or-drop, z)

pub be-front : (w : ℕ) (l : List ℕ) (p : ℕ) → be w (drop p l) 0 ≡ be w l p
be-front w l p = be-drop w l p 0 ∙ ap (be w l) (add-zero p)

module _ {A : Type 0} (w : ℕ) (f : List ℕ → A) (n i : ℕ) (l : List ℕ) (p : ℕ) where
  pub several-none : n ≤ i → several w f (n - i) (drop p l) ≡ []
  unfolding several
  several-none h = let z : n - i ≡ 0 = omega arith in rw z

  pub several-cons : i < n → several w f (n - i) (drop p l) ≡ f (drop p l) ∷ several w f (n - (i + 1)) (drop (p + w) l)
  unfolding several
  several-cons h = let z : n - i ≡ suc (n - (i + 1)) = omega arith in rw (z, drop-drop w p l)

-- a part of each thing
module _ {A B : Type 0} (w : ℕ) (f : List ℕ → A) where
  pub map-several : (g : A → B) (n : ℕ) (l : List ℕ) → map g (several w f n l) ≡ several w (λ l. g (f l)) n l
  unfolding several
  map-several g zero l = refl
  map-several g (suc n) l = ap (λ r. g (f l) ∷ r) (map-several g n (drop w l))
