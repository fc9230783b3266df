use mathlib.Core.Path.{◌≡◌}
use Prim.Native.Nat.{◌≤◌}
use lib.Dec.{leb}
use lib.ListN.{length, drop}
use Rattle.lists.specs.Lists.{all}
use Rattle.cover.specs.Answers.{ranges_in}
use Rattle.cover_read.proofs.ranges.in_order.Given as goal

abbrev pub invariant-loop-i : goal.invariant-loop-i
invariant-loop-i l =
    (l.i ≤ length l.ids) × (all (λ x. leb x.least x.greatest) (ranges_in l.ids l.minima l.maxima)
    ≡ all (λ x. leb x.least x.greatest) (ranges_in (drop l.i l.ids) (drop l.i l.minima) (drop l.i l.maxima)))
