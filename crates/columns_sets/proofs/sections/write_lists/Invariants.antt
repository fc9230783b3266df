use mathlib.Core.Path.{◌≡◌}
use mathlib.Core.Bool.{true}
use Prim.Native.Nat.{◌*◌, ◌-◌, ◌≤◌}
use lib.ListN.{drop}
use Rattle.columns.specs.Limits.{kinds}
use Rattle.lists.specs.Lists as Lists
use Rattle.lists.proofs.Storing.{Storing}
use Rattle.columns.specs.EdgeSet.{deltas_from}
use Rattle.columns.specs.Building.{fits63, rows_within}
use Rattle.columns_sets.proofs.sections.write_lists.Given as goal

abbrev pub invariant-loop-q : goal.invariant-loop-q
invariant-loop-q l =
    (l.q ≤ 2 * l.n) × (Lists.all fits63 (Lists.joined (deltas_from kinds l.first l.q (drop l.q (rows_within kinds l.low l.high l.from l.n l.offsets l.targets)))) ≡ true)
    × Storing l.initial.starts 0 (Lists.starts 0 (rows_within kinds l.low l.high l.from l.n l.offsets l.targets)) l.starts l.q
    (Lists.starts l.p (drop l.q (rows_within kinds l.low l.high l.from l.n l.offsets l.targets)))
    × Storing l.initial.deltas 0 (Lists.joined (deltas_from kinds l.first 0 (rows_within kinds l.low l.high l.from l.n l.offsets l.targets))) l.deltas l.p
    (Lists.joined (deltas_from kinds l.first l.q (drop l.q (rows_within kinds l.low l.high l.from l.n l.offsets l.targets))))

abbrev pub decreases-loop-q : goal.decreases-loop-q
decreases-loop-q l = 2 * l.n - l.q
