use Rattle.std.proofs.Common.{◌≡◌, ◌≤◌, length, drop}
use lib.Seq.{sets}
use Rattle.cover.specs.Cover.{differences}
use Rattle.cover.specs.Answers.{over}
use Rattle.cover_build.proofs.encode.write_differences.Given as goal

abbrev pub invariant-loop-i : goal.invariant-loop-i
invariant-loop-i l =
    (l.i ≤ length l.chains) × (length l.out ≡ length l.initial.out) × (over (differences 0 l.chains) l.initial.out ≡ sets l.out l.i (differences l.before (drop l.i l.chains)))
