-- The invariant: the events still to be looked at come on top of n.
use mathlib.Core.Path.{◌≡◌}
use Prim.Native.Nat.{◌≤◌, ◌+◌, ◌-◌}
use lib.ListN.{length}
use Rattle.columns.specs.Limits.{kinds}
use Rattle.lists.specs.Lists.{filter, up_from}
use Rattle.columns.specs.EdgeSet.{cut}
use Rattle.run_renumber.specs.Reparented.{is_reparented, reparented}
use Rattle.run_renumber.proofs.count_reparented.Given as goal

abbrev pub invariant-loop-i : goal.invariant-loop-i
invariant-loop-i l =
    (l.i ≤ length l.flags) × (l.n ≤ l.i)
    × (reparented kinds l.start l.flags (cut l.offsets l.targets) ≡ l.n + length (filter (is_reparented kinds l.start l.flags (cut l.offsets l.targets)) (up_from l.i (length l.flags - l.i))))
