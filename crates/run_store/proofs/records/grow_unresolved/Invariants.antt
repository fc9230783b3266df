use Prim.Native.Nat.{◌≤◌, ◌-◌}
use lib.ListN.{length}
use Rattle.run_store.proofs.turns.Turns.{Walk}
use Rattle.run_state.specs.ByColumns.{unresolved_of}
use Rattle.run_store.proofs.records.RecordTurns.{unresolved_now}
use Rattle.run_store.proofs.records.grow_unresolved.Given as goal

abbrev pub invariant-loop-p : goal.invariant-loop-p
invariant-loop-p l =
    (l.p ≤ length l.bytes) × (l.k ≤ l.p) × Walk unresolved_now l.h (unresolved_of l.c l.children l.kinds l.handles) l.bytes l.k l.p

abbrev pub decreases-loop-p : goal.decreases-loop-p
decreases-loop-p l = length l.bytes - l.p
