use mathlib.Core.Path.{◌≡◌}
use lib.ListN.{drop}
use Rattle.lists.specs.Order.{climbs_to}
use Rattle.archive_write.proofs.references.climbs.Given as goal

abbrev pub invariant-loop-i : goal.invariant-loop-i
invariant-loop-i l = climbs_to l.high 0 (drop 1 l.offsets) ≡ climbs_to l.high l.low (drop l.i l.offsets)
