use mathlib.Core.Path.{◌≡◌}
use Prim.Native.Nat.{◌≤◌, ◌+◌, ◌-◌, ◌*◌}
use lib.ListN.{length}
use Rattle.archive_read.proofs.references.AtReferences.{counts}
use Rattle.archive_read.proofs.references.references_body.Given as goal

abbrev pub invariant-loop-i : goal.invariant-loop-i
invariant-loop-i l =
    (l.n ≡ l.rows) × (l.i ≤ l.rows) × (l.p ≤ length l.b) × (l.total * 10 + l.i * 4 ≡ l.p) × (counts 0 l.rows l.b 0 ≡ counts l.total (l.rows - l.i) l.b l.p)
