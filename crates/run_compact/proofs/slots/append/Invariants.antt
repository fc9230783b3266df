-- The invariant: what is copied, and what is left.
use mathlib.Core.Path.{◌≡◌}
use mathlib.Core.List.{◌++◌}
use Prim.Native.Nat.{◌+◌}
use lib.ListN.{length, take}
use lib.Seq.{slice}
use Rattle.run_compact.proofs.slots.append.Given as goal

abbrev pub invariant-loop-i : goal.invariant-loop-i
invariant-loop-i l =
    (l.n + l.a ≡ l.end + l.i) × (length l.all ≡ length l.initial.all) × (take l.end l.initial.all ++ slice l.a l.b l.targets ≡ take l.n l.all ++ slice l.i l.b l.targets)
