-- A number of the file, by its test.
use mathlib.Core.Path.{◌≡◌}
use mathlib.Core.Bool.{true, false}
use mathlib.Core.Logic.{inl, inr}
use Prim.Native.Nat.{ℕ, ◌+◌, ◌-◌, ◌≤◌, ◌<◌}
use native.Mathlib.Omega.{arith}
use lib.Dec.{ltb, leb}
use borrow.Author.Tests.{lt-ltb, le-ltb, le-leb, lt-leb, ltb-true, ltb-false, leb-true}
use Rattle.lists.proofs.Tests.{tested, both}
use Rattle.columns.specs.Building.{in_file}

module _ (first rows number : ℕ) where
  pub before-file : number < first → false ≡ in_file first (first + rows) number
  unfolding in_file
  before-file h = rw (lt-leb first number h)

  pub from_first : first ≤ number → ltb (number - first) rows ≡ in_file first (first + rows) number
  unfolding in_file
  from_first h =
      rw (le-leb first number h) (elim (tested (ltb (number - first) rows)) [
        | inl e ↦ rw (e, lt-ltb number (first + rows) (omega (arith, ltb-true (number - first) rows e)))
        | inr e ↦ rw (e, le-ltb number (first + rows) (omega (arith, ltb-false (number - first) rows e)))
      ])

  pub in-file-low : in_file first (first + rows) number ≡ true → first ≤ number
  unfolding in_file
  in-file-low e = leb-true first number (both (leb first number) _ e).0

  pub in-file-high : in_file first (first + rows) number ≡ true → number < first + rows
  unfolding in_file
  in-file-high e = ltb-true number (first + rows) (both (leb first number) _ e).1
