-- The invariant: the flags that are put, and those of the records that are left.
use mathlib.Core.Path.{◌≡◌}
use mathlib.Core.List.{◌++◌}
use Prim.Native.Nat.{◌≤◌}
use lib.ListN.{length, take}
use lib.Seq.{slice}
use Rattle.run_compact.specs.Columns.{flags_of}
use Rattle.run_compact.proofs.following.put_flags.Given as goal

abbrev pub invariant-loop-i : goal.invariant-loop-i
invariant-loop-i l =
    (l.i ≤ l.n) × (length l.out ≡ length l.initial.out) × (flags_of l.base l.flags (take l.n l.rows) ≡ take l.i l.out ++ flags_of l.base l.flags (slice l.i l.n l.rows))
