use mathlib.Core.Path.{◌≡◌}
use Prim.Native.Nat.{◌≤◌}
use lib.ListN.{length, drop}
use Rattle.lists.specs.Order.{rises_above}
use Rattle.cover_read.proofs.ranges.rise_from.Given as goal

abbrev pub invariant-loop-i : goal.invariant-loop-i
invariant-loop-i l = (l.i ≤ length l.ids) × (rises_above l.first (drop 1 l.ids) ≡ rises_above l.low (drop l.i l.ids))
