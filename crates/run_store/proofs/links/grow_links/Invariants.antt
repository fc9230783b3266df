use Prim.Native.Nat.{◌≤◌, ◌-◌}
use lib.ListN.{length}
use Rattle.run_store.proofs.turns.Turns.{Walk}
use Rattle.run_state.specs.ByColumns.{links_of}
use Rattle.run_store.proofs.links.LinkTurns.{links_now}
use Rattle.run_store.proofs.links.grow_links.Given as goal

abbrev pub invariant-loop-p : goal.invariant-loop-p
invariant-loop-p l =
    (l.p ≤ length l.bytes) × (l.k ≤ l.p)
    × Walk links_now l.h (links_of l.c l.groups l.chains l.seqs l.tochains l.toseqs) l.bytes l.k l.p

abbrev pub decreases-loop-p : goal.decreases-loop-p
decreases-loop-p l = length l.bytes - l.p
