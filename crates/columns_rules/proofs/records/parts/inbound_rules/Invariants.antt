use mathlib.Core.Path.{◌≡◌}
use Prim.Native.Nat.{◌≤◌, ◌+◌, ◌-◌}
use Rattle.columns.specs.Building.{record_count}
use Rattle.columns.specs.Answers.{ruling}
use Rattle.columns_rules.specs.records.Recorded.{inbound_from}
use Rattle.columns_rules.proofs.records.parts.inbound_rules.Given as goal

abbrev pub invariant-loop-i : goal.invariant-loop-i
invariant-loop-i l =
    (l.i ≤ l.n) × (ruling (inbound_from l.first (l.first + l.rows) l.children l.parents l.kinds 0 (record_count l.children l.parents l.kinds))
    ≡ ruling (inbound_from l.first (l.first + l.rows) l.children l.parents l.kinds l.i (l.n - l.i)))
