use mathlib.Core.Path.{◌≡◌}
use mathlib.Core.List.{◌++◌}
use Prim.Native.Nat.{◌≤◌, ◌+◌, ◌-◌}
use lib.ListN.{length, take, drop}
use Rattle.lists.specs.Lists.{up_from}
use Rattle.cover_read.specs.chosen.Chosen.{run_of}
use Rattle.cover_read.proofs.chosen.put_run.Given as goal

abbrev pub invariant-loop-i : goal.invariant-loop-i
invariant-loop-i l =
    (l.start ≤ l.i) × (l.i ≤ length l.from) × (l.at ≡ l.k + (l.i - l.start)) × (length l.rows ≡ length l.initial.rows)
    × (l.start + run_of l.chain (drop l.start l.from) ≡ l.i + run_of l.chain (drop l.i l.from))
    × (take l.at l.rows ≡ take l.k l.initial.rows ++ up_from l.start (l.i - l.start))
