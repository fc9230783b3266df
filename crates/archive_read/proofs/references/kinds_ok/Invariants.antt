use mathlib.Core.Path.{◌≡◌}
use Prim.Native.Nat.{◌≤◌, ◌+◌, ◌-◌, ◌*◌}
use lib.ListN.{drop}
use Rattle.lists.specs.Lists.{all}
use Rattle.archive.specs.Bytes.{several}
use Rattle.archive.specs.Parse.{reference_at, reference_ok}
use Rattle.archive_read.proofs.references.kinds_ok.Given as goal

abbrev pub invariant-loop-i : goal.invariant-loop-i
invariant-loop-i l =
    (l.i ≤ l.n) × (all reference_ok (several 10 reference_at l.n (drop l.p l.b)) ≡ all reference_ok (several 10 reference_at (l.n - l.i) (drop (l.p + l.i * 10) l.b)))
