use Rattle.std.proofs.Common.{◌≤◌, [], length, get_or}
use lib.Seq.{slice}
use Rattle.lists.proofs.Storing.{Storing}
use Rattle.columns.specs.EdgeSet.{cut}
use Rattle.columns.specs.Building.{deltas_within}
use Rattle.archive_store.specs.sections.DeltaBytes.{delta_bytes}
use Rattle.archive_store.proofs.sections.store_list.Given as goal

abbrev pub invariant-loop-j : goal.invariant-loop-j
invariant-loop-j l =
    (l.b ≤ length l.targets) × Storing l.initial.out l.at (delta_bytes (deltas_within l.low l.high l.event (get_or (cut l.offsets l.targets) l.s []))) l.out l.p
    (delta_bytes (deltas_within l.low l.high l.event (slice l.j l.b l.targets)))
