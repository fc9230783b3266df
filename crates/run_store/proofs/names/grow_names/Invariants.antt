use Prim.Native.Nat.{◌≤◌, ◌-◌}
use lib.ListN.{length}
use Rattle.run_store.proofs.turns.Turns.{Walk}
use Rattle.run_store.specs.names.Named.{names_of}
use Rattle.run_store.proofs.names.grow_names.Given as goal

abbrev pub invariant-loop-p : goal.invariant-loop-p
invariant-loop-p l = (l.p ≤ length l.bytes) × (l.k ≤ l.p) × Walk names_of l.h l.q l.bytes l.k l.p

abbrev pub decreases-loop-p : goal.decreases-loop-p
decreases-loop-p l = length l.bytes - l.p
