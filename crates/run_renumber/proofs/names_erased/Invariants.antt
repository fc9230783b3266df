-- The invariant: whether the part names an erased event is whether what is left of it does.
use mathlib.Core.Path.{◌≡◌}
use Prim.Native.Nat.{◌≤◌}
use lib.Seq.{slice}
use Rattle.lists.specs.Lists.{any}
use Rattle.run_renumber.specs.Reparented.{is_erased}
use Rattle.run_renumber.proofs.names_erased.Given as goal

abbrev pub invariant-loop-i : goal.invariant-loop-i
invariant-loop-i l =
    (l.i ≤ l.b) × (any (is_erased l.start l.flags) (slice l.a l.b l.targets) ≡ any (is_erased l.start l.flags) (slice l.i l.b l.targets))
