use Rattle.std.proofs.Common.{◌≡◌, ◌≤◌, take}
use lib.Seq.{slice}
use Rattle.lists.specs.Order.{level_above, not_falling}
use Rattle.archive_store.proofs.order.is_level.Given as goal

abbrev pub invariant-loop-i : goal.invariant-loop-i
invariant-loop-i l = (l.i ≤ l.n) × (not_falling (take l.n l.column) ≡ level_above l.low (slice l.i l.n l.column))
