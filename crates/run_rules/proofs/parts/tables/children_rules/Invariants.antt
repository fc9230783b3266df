use mathlib.Core.Path.{◌≡◌}
use Prim.Native.Nat.{◌≤◌, ◌+◌, ◌-◌, ◌*◌}
use lib.ListN.{drop}
use Rattle.columns.specs.Answers.{ruling}
use Rattle.run_rules.proofs.parts.RecordTurns.{records_from}
use Rattle.run_rules.proofs.parts.tables.children_rules.Given as goal

abbrev pub invariant-loop-i : goal.invariant-loop-i
invariant-loop-i l =
    (l.i ≤ l.n) × (l.p ≡ 4 + l.i * 13) × (ruling (records_from l.first (l.first + l.rows) l.n (drop 4 l.b)) ≡ ruling (records_from l.first (l.first + l.rows) (l.n - l.i) (drop l.p l.b)))
