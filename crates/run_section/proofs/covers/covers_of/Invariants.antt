-- The invariant: the covers of the groups so far.
use mathlib.Core.Path.{◌≡◌}
use Prim.Native.Nat.{◌≤◌, ◌-◌}
use lib.ListN.{length}
use Rattle.run_section.specs.Covers.{CoversTo}
use Rattle.run_section.proofs.covers.covers_of.Given as goal

abbrev pub invariant-loop-g : goal.invariant-loop-g
invariant-loop-g l =
    (l.g ≤ l.groups.count) × (length l.ends ≡ 17) × (length l.rises ≡ 16) × (length l.ranges ≡ 3072)
    × (CoversTo l.z l.groups l.rows l.ranges l.g l.ends l.rises)
