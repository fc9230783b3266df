use mathlib.Core.Path.{◌≡◌}
use Prim.Native.Nat.{◌≤◌}
use lib.ListN.{length, drop}
use lib.Seq.{sets}
use Rattle.cover.specs.Answers.{over}
use Rattle.cover_read.proofs.chosen.widen.Given as goal

abbrev pub invariant-loop-i : goal.invariant-loop-i
invariant-loop-i l =
    (l.i ≤ length l.chains) × (length l.out ≡ length l.initial.out) × (over l.chains l.initial.out ≡ sets l.out l.i (drop l.i l.chains))
