use mathlib.Core.Path.{◌≡◌}
use mathlib.Core.List.{◌++◌}
use Prim.Native.Nat.{◌≤◌}
use lib.ListN.{length, take, drop}
use Rattle.cover_read.specs.chosen.Chosen.{rows_of}
use Rattle.cover_read.proofs.chosen.choose.Given as goal

abbrev pub invariant-loop-i : goal.invariant-loop-i
invariant-loop-i l =
    (l.i ≤ length l.chains) × (l.p ≤ length l.from) × (l.k ≤ l.p) × (length l.rows ≡ length l.initial.rows)
    × (rows_of l.chains 0 l.from ≡ take l.k l.rows ++ rows_of (drop l.i l.chains) l.p (drop l.p l.from))
