use mathlib.Core.Path.{◌≡◌}
use mathlib.Core.Bool.{true}
use Prim.Native.Nat.{◌≤◌, ◌+◌}
use lib.ListN.{length, drop}
use lib.Seq.{sets}
use Rattle.lists.specs.Lists.{all}
use Rattle.columns.specs.Building.{in_file}
use Rattle.columns_build.specs.Written.{rows_of}
use Rattle.columns_build.proofs.roots.write_rows.Given as goal

abbrev pub invariant-loop-i : goal.invariant-loop-i
invariant-loop-i l =
    (l.i ≤ length l.events) × (length l.out ≡ length l.initial.out) × (all (in_file l.first (l.first + l.rows)) (drop l.i l.events) ≡ true)
    × (sets l.initial.out 0 (rows_of l.first l.events) ≡ sets l.out l.i (rows_of l.first (drop l.i l.events)))
