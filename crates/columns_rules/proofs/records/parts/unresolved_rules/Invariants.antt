use mathlib.Core.Path.{◌≡◌}
use Prim.Native.Nat.{◌≤◌, ◌+◌, ◌-◌}
use Rattle.columns.specs.Building.{record_count}
use Rattle.columns.specs.Answers.{ruling}
use Rattle.columns_rules.specs.records.Recorded.{unresolved_from}
use Rattle.columns_rules.proofs.records.parts.unresolved_rules.Given as goal

abbrev pub invariant-loop-i : goal.invariant-loop-i
invariant-loop-i l =
    (l.i ≤ l.n) × (ruling (unresolved_from l.first (l.first + l.rows) l.children l.kinds l.flags 0 (record_count l.children l.kinds l.flags))
    ≡ ruling (unresolved_from l.first (l.first + l.rows) l.children l.kinds l.flags l.i (l.n - l.i)))
