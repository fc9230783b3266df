use mathlib.Core.Path.{◌≡◌}
use Prim.Native.Nat.{◌≤◌, ◌+◌, ◌-◌, ◌*◌}
use lib.ListN.{drop}
use Rattle.archive.specs.Bytes.{several}
use Rattle.lists.specs.Lists.{all}
use Rattle.archive.specs.Parse.{root_at}
use Rattle.run_rules.specs.parts.Back.{in_rows}
use Rattle.run_rules.proofs.parts.tables.roots_in.Given as goal

abbrev pub invariant-loop-i : goal.invariant-loop-i
invariant-loop-i l =
    (l.i ≤ l.n) × (l.p ≡ 4 + l.i * 16) × (all (in_rows l.rows) (several 16 root_at l.n (drop 4 l.b)) ≡ all (in_rows l.rows) (several 16 root_at (l.n - l.i) (drop l.p l.b)))
