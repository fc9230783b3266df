use mathlib.Core.Path.{◌≡◌}
use Prim.Native.Nat.{◌≤◌, ◌+◌}
use lib.ListN.{length, drop}
use Rattle.lists.specs.Lists.{all}
use Rattle.columns.specs.Building.{in_file}
use Rattle.columns_build.proofs.roots.all_in_file.Given as goal

abbrev pub invariant-loop-i : goal.invariant-loop-i
invariant-loop-i l =
    (l.i ≤ length l.events) × (all (in_file l.first (l.first + l.rows)) l.events ≡ all (in_file l.first (l.first + l.rows)) (drop l.i l.events))
