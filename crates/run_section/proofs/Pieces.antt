-- The lists of some rows stand together in their table: joined, they are the part of the column between two offsets.
use mathlib.Core.Path.{◌≡◌, refl, ◌∙◌}
use mathlib.Core.Bool.{true}
use mathlib.Core.List.{List, [], ◌∷◌}
use Prim.Native.Nat.{ℕ, zero, suc, ◌+◌, ◌-◌, ◌<◌}
use native.Mathlib.Omega.{arith}
use lib.ListN.{length, get_or, take, drop}
use lib.Seq.{slice}
use Rattle.lists.specs.Lists.{joined, part}
use Rattle.columns.specs.EdgeSet.{from_to, cut}
use Rattle.columns.proofs.Offsets.{cut-length, joined-cut, starts-cut}
use Rattle.cleaning.proofs.Offsets.{joined-part}

middle : (a b : ℕ) (l : List ℕ) → take (b - a) (drop a l) ≡ slice a b l
middle zero b l = let e : b - 0 ≡ b = omega arith in rw e
middle (suc a) zero l = let e : 0 - suc a ≡ 0 = omega arith in rw e
middle (suc a) (suc b) [] = none (suc b - suc a)
  where
    none : (n : ℕ) → take {A = ℕ} n [] ≡ []
    none zero = refl
    none (suc n) = refl
middle (suc a) (suc b) (x ∷ xs) = let e : suc b - suc a ≡ b - a = omega arith in rw e (middle a b xs)

module _ (offsets column : List ℕ) (e : from_to 0 (length column) offsets ≡ true) (i n : ℕ) (h : i + n < length offsets) where
  pub joined-piece : joined (part i n (cut offsets column)) ≡ slice (get_or offsets i 0) (get_or offsets (i + n) 0) column
  unfolding part
  joined-piece =
      joined-part i n (cut offsets column) (omega (arith, h, cut-length offsets column))
      ∙ rw (starts-cut column offsets e, joined-cut column offsets e) (middle (get_or offsets i 0) (get_or offsets (i + n) 0) column)
