-- The invariant: the groups so far are the one, those left are not below it.
use mathlib.Core.Path.{◌≡◌}
use mathlib.Core.Bool.{true}
use Prim.Native.Nat.{◌≤◌}
use lib.Dec.{eqb}
use lib.Seq.{slice}
use Rattle.lists.specs.Lists.{all}
use Rattle.lists.specs.Order.{level_above}
use Rattle.run_resolve.proofs.links.end_of.Given as goal

abbrev pub invariant-loop-p : goal.invariant-loop-p
invariant-loop-p l =
    (l.i ≤ l.p) × (l.p ≤ l.n) × (all (eqb l.g) (slice l.i l.p l.groups) ≡ true) × (level_above l.g (slice l.p l.n l.groups) ≡ true)
