use mathlib.Core.Path.{◌≡◌}
use Prim.Native.Nat.{◌+◌, ◌-◌, ◌*◌, ◌≤◌}
use lib.ListN.{drop}
use Rattle.lists.specs.Lists.{all}
use Rattle.archive_bytes.specs.Bytes.{several}
use Rattle.run_section.specs.Tables.{unresolved_in}
use Rattle.run_section.specs.Rules.{kind_fits}
use Rattle.run_section.proofs.rules.kinds_fit.Given as goal

abbrev pub invariant-loop-i : goal.invariant-loop-i
invariant-loop-i l =
    (l.i ≤ l.n) × (l.p ≡ l.a * 3 + l.i * 3)
    × (all kind_fits (several 3 unresolved_in l.n (drop (l.a * 3) l.unresolved)) ≡ all kind_fits (several 3 unresolved_in (l.n - l.i) (drop l.p l.unresolved)))
