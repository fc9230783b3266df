-- One number for each thing of a record, as a column.
use mathlib.Core.Path.{◌≡◌, refl, ap}
use mathlib.Core.List.{List, ◌∷◌, map}
use Prim.Native.Nat.{ℕ, zero, suc}
use lib.ListN.{drop, replicate}
use Rattle.archive_bytes.specs.Bytes.{several}

module _ {A B : Type 0} (w : ℕ) (f : List ℕ → A) where
  pub same-several : (v : B) (n : ℕ) (l : List ℕ) → map (λ x. v) (several w f n l) ≡ replicate n v
  unfolding several
  same-several v zero l = refl
  same-several v (suc n) l = ap (λ r. v ∷ r) (same-several v n (drop w l))
