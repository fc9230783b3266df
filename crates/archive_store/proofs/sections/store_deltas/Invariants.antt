use Rattle.std.proofs.Common.{◌*◌, ◌≤◌, drop}
use Rattle.columns.specs.Limits.{kinds}
use Rattle.lists.specs.Lists.{joined}
use Rattle.lists.proofs.Storing.{Storing}
use Rattle.columns.specs.EdgeSet.{deltas_from}
use Rattle.columns.specs.Building.{rows_within}
use Rattle.archive_store.specs.sections.DeltaBytes.{delta_bytes}
use Rattle.archive_store.proofs.sections.store_deltas.Given as goal

abbrev pub invariant-loop-q : goal.invariant-loop-q
invariant-loop-q l =
    (l.q ≤ 2 * l.n)
    × Storing l.initial.out l.at (delta_bytes (joined (deltas_from kinds l.first 0 (rows_within kinds l.low l.high l.from l.n l.offsets l.targets)))) l.out l.p
    (delta_bytes (joined (deltas_from kinds l.first l.q (drop l.q (rows_within kinds l.low l.high l.from l.n l.offsets l.targets)))))
