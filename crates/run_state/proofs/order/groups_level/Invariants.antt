use mathlib.Core.Path.{◌≡◌}
use Prim.Native.Nat.{◌≤◌}
use lib.ListN.{take}
use lib.Seq.{slice}
use Rattle.lists.specs.Order.{level_above, not_falling}
use Rattle.run_state.proofs.order.groups_level.Given as goal

abbrev pub invariant-loop-i : goal.invariant-loop-i
invariant-loop-i l = (l.i ≤ l.n) × (not_falling (take l.n l.groups) ≡ level_above l.low (slice l.i l.n l.groups))
