use Prim.Native.Nat.{◌≤◌, ◌+◌, ◌-◌}
use lib.Seq.{sets}
use lib.ListN.{replicate}
use mathlib.Core.Path.{◌≡◌}
use Rattle.run_store.proofs.grow.fill.Given as goal

abbrev pub invariant-loop-i : goal.invariant-loop-i
invariant-loop-i l =
    (l.i ≤ l.n) × (sets l.initial.out l.at (replicate l.n l.x) ≡ sets l.out (l.at + l.i) (replicate (l.n - l.i) l.x))
