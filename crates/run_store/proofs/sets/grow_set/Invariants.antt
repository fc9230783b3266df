use Prim.Native.Nat.{◌≤◌, ◌-◌}
use lib.ListN.{length}
use Rattle.run_store.proofs.turns.Turns.{Walk}
use Rattle.run_state.specs.ByColumns.{edges_of}
use Rattle.run_store.proofs.sets.SetTurns.{side_now}
use Rattle.run_store.proofs.sets.grow_set.Given as goal

abbrev pub invariant-loop-p : goal.invariant-loop-p
invariant-loop-p l =
    (l.p ≤ length l.bytes) × (l.k ≤ l.p)
    × Walk (side_now l.side) l.h (edges_of l.c l.starts l.targets, l.n) l.bytes l.k l.p

abbrev pub decreases-loop-p : goal.decreases-loop-p
decreases-loop-p l = length l.bytes - l.p
