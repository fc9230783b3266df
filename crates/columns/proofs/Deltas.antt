-- Event minus target as a difference of numbers: down to an earlier target, up to a later one.
use mathlib.Core.Path.{◌≡◌, ap}
use Prim.Native.Nat.{ℕ, zero, suc, ◌-◌, ◌≤◌, ◌<◌}
use native.Mathlib.Omega.{arith}
use lib.IntN.{pos, negsuc}
use borrow.Author.Tests.{lt-ltb, le-ltb}
use Rattle.columns.specs.EdgeSet.{delta_of}

module _ (event target : ℕ) where
  pub delta-down : target ≤ event → delta_of event target ≡ pos (event - target)
  unfolding delta_of
  delta-down h = go target h
    where
      go : (t : ℕ) → t ≤ event → delta_of event t ≡ pos (event - t)
      go zero h = ap pos (omega arith)
      go (suc n) h = rw (le-ltb event (suc n) h)

  pub delta-up : event < target → delta_of event target ≡ negsuc (target - event - 1)
  unfolding delta_of
  delta-up h = go target h
    where
      go : (t : ℕ) → event < t → delta_of event t ≡ negsuc (t - event - 1)
      go zero h = absurd (omega arith)
      go (suc n) h = rw (lt-ltb event (suc n) h) (ap negsuc (omega arith))
