use Prim.Native.Nat.{◌≤◌, ◌-◌}
use lib.ListN.{length}
use Rattle.run_store.proofs.turns.Turns.{Walk}
use Rattle.run_state.specs.ByColumns.{roots_of}
use Rattle.run_store.proofs.records.RecordTurns.{roots_now}
use Rattle.run_store.proofs.records.grow_roots.Given as goal

abbrev pub invariant-loop-p : goal.invariant-loop-p
invariant-loop-p l = (l.p ≤ length l.bytes) × (l.k ≤ l.p) × Walk roots_now l.h (roots_of l.c l.rows l.handles, l.n) l.bytes l.k l.p

abbrev pub decreases-loop-p : goal.decreases-loop-p
decreases-loop-p l = length l.bytes - l.p
