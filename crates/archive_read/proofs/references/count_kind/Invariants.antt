use mathlib.Core.Path.{◌≡◌}
use Prim.Native.Nat.{◌≤◌, ◌+◌, ◌-◌, ◌*◌}
use lib.ListN.{drop}
use Rattle.archive.specs.Bytes.{several}
use Rattle.archive.specs.Parse.{reference_at, of_kind}
use Rattle.archive_read.proofs.references.count_kind.Given as goal

abbrev pub invariant-loop-i : goal.invariant-loop-i
invariant-loop-i l =
    (l.i ≤ l.n) × (l.found ≤ l.i) ×
    (of_kind l.kind (several 10 reference_at l.n (drop l.p l.b)) ≡ l.found + of_kind l.kind (several 10 reference_at (l.n - l.i) (drop (l.p + l.i * 10) l.b)))
