use Prim.Native.Nat.{◌≤◌, ◌-◌}
use lib.ListN.{length}
use Rattle.run_store.proofs.turns.Turns.{Walk}
use Rattle.run_state.specs.ByColumns.{rows_of}
use Rattle.run_store.proofs.rows.RowTurns.{rows_now}
use Rattle.run_store.proofs.rows.grow_rows.Given as goal

abbrev pub invariant-loop-p : goal.invariant-loop-p
invariant-loop-p l =
    (l.p ≤ length l.bytes) × (l.k ≤ l.p) × Walk rows_now l.h (rows_of l.c l.groups l.tags l.chains l.seqs) l.bytes l.k l.p

abbrev pub decreases-loop-p : goal.decreases-loop-p
decreases-loop-p l = length l.bytes - l.p
