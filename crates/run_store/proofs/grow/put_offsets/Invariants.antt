use mathlib.Core.List.{map}
use Prim.Native.Nat.{◌≤◌, ◌+◌}
use lib.Seq.{sets}
use lib.ListN.{length, drop}
use mathlib.Core.Path.{◌≡◌}
use Rattle.run_store.proofs.grow.put_offsets.Given as goal

abbrev pub invariant-loop-i : goal.invariant-loop-i
invariant-loop-i l =
    (1 ≤ l.i) × (l.i ≤ length l.offsets) × (sets l.initial.out (l.at + 1) (map (λ o. l.add + o) (drop 1 l.offsets)) ≡ sets l.out (l.at + l.i) (map (λ o. l.add + o) (drop l.i l.offsets)))
