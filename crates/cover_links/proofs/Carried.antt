-- As many links as all five slices have room for: no more than any of them has.
use Prim.Native.Nat.{ℕ, ◌≤◌}
use native.Mathlib.Omega.{arith}
use Rattle.cover_links.specs.Links.{least}

module _ (a b c d e : ℕ) where
  pub least-1 : least a b c d e ≤ a
  unfolding least
  least-1 = omega arith

  pub least-2 : least a b c d e ≤ b
  unfolding least
  least-2 = omega arith

  pub least-3 : least a b c d e ≤ c
  unfolding least
  least-3 = omega arith

  pub least-4 : least a b c d e ≤ d
  unfolding least
  least-4 = omega arith

  pub least-5 : least a b c d e ≤ e
  unfolding least
  least-5 = omega arith
