use mathlib.Core.Path.{◌≡◌}
use mathlib.Core.Bool.{true}
use mathlib.Core.List.{[]}
use Prim.Native.Nat.{◌≤◌}
use lib.ListN.{length, get_or}
use lib.Seq.{slice}
use Rattle.lists.specs.Lists.{all}
use Rattle.lists.proofs.Storing.{Storing}
use Rattle.columns.specs.EdgeSet.{cut}
use Rattle.columns.specs.Building.{fits63, deltas_within}
use Rattle.columns_sets.proofs.sections.write_list.Given as goal

abbrev pub invariant-loop-j : goal.invariant-loop-j
invariant-loop-j l =
    (l.b ≤ length l.targets) × (all fits63 (deltas_within l.low l.high l.event (slice l.j l.b l.targets)) ≡ true)
    × Storing l.initial.out l.at (deltas_within l.low l.high l.event (get_or (cut l.offsets l.targets) l.s [])) l.out l.p (deltas_within l.low l.high l.event (slice l.j l.b l.targets))
