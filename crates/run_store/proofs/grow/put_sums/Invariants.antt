use Rattle.run_store.proofs.grow.Turns.{Fitting}
use Rattle.run_store.specs.grow.Column.{Room}
use Rattle.cover.specs.Cover.{sums}
use Rattle.archive_bytes.specs.Bytes.{column}
use Prim.Native.Nat.{◌≤◌, ◌+◌, ◌-◌}
use lib.Seq.{sets}
use lib.ListN.{length}
use mathlib.Core.Path.{◌≡◌}
use Rattle.run_store.proofs.grow.put_sums.Given as goal

abbrev pub invariant-loop-i : goal.invariant-loop-i
invariant-loop-i l =
    (l.i ≤ l.n) × Room (length l.bytes) l.p 4 (l.n - l.i) × Fitting l.sum (column 4 (l.n - l.i) l.bytes l.p)
    × (sets l.initial.out l.at (sums 0 (column 4 l.n l.bytes l.base)) ≡ sets l.out (l.at + l.i) (sums l.sum (column 4 (l.n - l.i) l.bytes l.p)))
