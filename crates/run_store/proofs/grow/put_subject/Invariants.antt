use Prim.Native.Nat.{◌≤◌, ◌+◌, ◌-◌}
use lib.Seq.{sets}
use lib.ListN.{take, drop}
use mathlib.Core.Path.{◌≡◌}
use Rattle.run_store.proofs.grow.put_subject.Given as goal

abbrev pub invariant-loop-i : goal.invariant-loop-i
invariant-loop-i l =
    (l.i ≤ l.n) × (sets l.initial.out 0 (take l.n (drop l.base l.bytes)) ≡ sets l.out l.i (take (l.n - l.i) (drop (l.base + l.i) l.bytes)))
