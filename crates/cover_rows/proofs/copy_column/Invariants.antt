use mathlib.Core.Path.{◌≡◌}
use Prim.Native.Nat.{◌≤◌}
use lib.ListN.{length, drop}
use lib.Seq.{sets}
use Rattle.cover.specs.Answers.{over}
use Rattle.cover_rows.proofs.copy_column.Given as goal

abbrev pub invariant-loop-i : goal.invariant-loop-i
invariant-loop-i l =
    (l.i ≤ length l.column) × (length l.out ≡ length l.initial.out) × (over l.column l.initial.out ≡ sets l.out l.i (drop l.i l.column))
