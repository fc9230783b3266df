use mathlib.Core.Path.{◌≡◌}
use mathlib.Core.List.{map}
use Prim.Native.Nat.{◌+◌, ◌*◌, ◌≤◌}
use lib.ListN.{length, drop}
use Rattle.cleaning.specs.Lines.{decimal}
use Rattle.run_text.specs.lines.Parts.{spaced}
use Rattle.run_text.proofs.lines.Columns.{Going}
use Rattle.run_text.proofs.lines.put_numbers.Given as goal

abbrev pub invariant-loop-x : goal.invariant-loop-x
invariant-loop-x l =
    (l.x-index ≤ length l.xs) × (l.p ≤ l.at + 21 * l.x-index) × (length l.out ≡ length l.initial.out)
    × Going (spaced (map decimal l.xs)) l.initial.out l.at l.out l.p (spaced (map decimal (drop l.x-index l.xs)))
