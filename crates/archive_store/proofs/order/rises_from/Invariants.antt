use Rattle.std.proofs.Common.{◌≡◌, ◌≤◌}
use lib.Seq.{slice}
use Rattle.lists.specs.Order.{rises_above}
use Rattle.archive_store.proofs.order.rises_from.Given as goal

abbrev pub invariant-loop-i : goal.invariant-loop-i
invariant-loop-i l =
    (1 ≤ l.i) × (l.i ≤ l.n) × (rises_above l.first (slice 1 l.n l.column) ≡ rises_above l.low (slice l.i l.n l.column))
