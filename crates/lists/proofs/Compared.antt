-- The order of two numbers.
use mathlib.Core.Path.{◌≡◌}
use mathlib.Core.Logic.{inl, inr}
use Prim.Native.Nat.{ℕ, ◌<◌}
use native.Mathlib.Omega.{arith}
use lib.Dec.{ltb}
use borrow.Author.Tests.{ltb-true, ltb-false}
use Rattle.lists.proofs.Tests.{tested}

pub data Compared (x y : ℕ) : Type 0 where
  less : x < y → Compared x y
  level : x ≡ y → Compared x y
  above : y < x → Compared x y

pub compared : (x y : ℕ) → Compared x y
compared x y = elim (tested (ltb x y)) [
  | inl e ↦ less (ltb-true x y e)
  | inr e ↦ elim (tested (ltb y x)) [ inl f ↦ above (ltb-true y x f) | inr f ↦ level (omega (arith, ltb-false x y e, ltb-false y x f)) ]
]
