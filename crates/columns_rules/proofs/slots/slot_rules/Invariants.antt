use mathlib.Core.Path.{◌≡◌}
use Prim.Native.Nat.{◌≤◌, ◌*◌}
use lib.ListN.{drop}
use Rattle.columns.specs.Limits.{kinds}
use Rattle.columns.specs.EdgeSet.{cut}
use Rattle.columns.specs.Building.{slot_rules}
use Rattle.columns.specs.Answers.{ruling}
use Rattle.columns_rules.proofs.slots.slot_rules.Given as goal

abbrev pub invariant-loop-s : goal.invariant-loop-s
invariant-loop-s l =
    (l.s ≤ 2 * l.rows) × (ruling (slot_rules kinds l.first 0 (cut l.offsets l.targets)) ≡ ruling (slot_rules kinds l.first l.s (drop l.s (cut l.offsets l.targets))))
