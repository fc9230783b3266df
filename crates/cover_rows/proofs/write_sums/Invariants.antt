use mathlib.Core.Path.{◌≡◌}
use Prim.Native.Nat.{◌≤◌}
use mathlib.Core.Bool.{true}
use lib.ListN.{length, drop}
use lib.Seq.{sets}
use Rattle.cover.specs.Cover.{sums}
use Rattle.cover.specs.Answers.{over}
use Rattle.cover_rows.proofs.Columned.{all_fit}
use Rattle.cover_rows.proofs.write_sums.Given as goal

abbrev pub invariant-loop-i : goal.invariant-loop-i
invariant-loop-i l =
    (l.i ≤ length l.differences) × (length l.out ≡ length l.initial.out) × (all_fit (sums l.sum (drop l.i l.differences)) ≡ true)
    × (over (sums 0 l.differences) l.initial.out ≡ sets l.out l.i (sums l.sum (drop l.i l.differences)))
