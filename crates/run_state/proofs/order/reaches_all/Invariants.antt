use mathlib.Core.Path.{◌≡◌}
use Prim.Native.Nat.{◌≤◌}
use lib.ListN.{take}
use lib.Seq.{slice}
use Rattle.cleaning.specs.Sections.{reaches}
use Rattle.run_state.proofs.order.reaches_all.Given as goal

abbrev pub invariant-loop-i : goal.invariant-loop-i
invariant-loop-i l =
    (l.seen ≤ l.i) × (l.i ≤ l.n) × (reaches l.count 0 (take l.n l.groups) ≡ reaches l.count l.seen (slice l.i l.n l.groups))
