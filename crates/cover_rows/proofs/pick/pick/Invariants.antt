use mathlib.Core.Path.{◌≡◌}
use Prim.Native.Nat.{◌≤◌}
use lib.ListN.{length, take}
use lib.Seq.{sets, slice}
use Rattle.cover.specs.Answers.{over}
use Rattle.cover_rows.specs.pick.Picked.{picked}
use Rattle.cover_rows.proofs.pick.pick.Given as goal

abbrev pub invariant-loop-i : goal.invariant-loop-i
invariant-loop-i l =
    (l.i ≤ l.n) × (length l.out ≡ length l.initial.out) × (over (picked l.column (take l.n l.rows)) l.initial.out ≡ sets l.out l.i (picked l.column (slice l.i l.n l.rows)))
