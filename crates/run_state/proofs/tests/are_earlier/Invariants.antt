use mathlib.Core.Path.{◌≡◌}
use Prim.Native.Nat.{◌≤◌, ◌*◌}
use lib.ListN.{drop}
use Rattle.columns.specs.EdgeSet.{cut}
use Rattle.run_state.specs.Valid.{earlier}
use Rattle.run_state.proofs.tests.are_earlier.Given as goal

abbrev pub invariant-loop-s : goal.invariant-loop-s
invariant-loop-s l =
    (l.s ≤ 2 * l.rows) × (earlier l.first 0 (cut l.offsets l.targets) ≡ earlier l.first l.s (drop l.s (cut l.offsets l.targets)))
