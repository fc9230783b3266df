use mathlib.Core.Path.{◌≡◌}
use mathlib.Core.List.{map}
use Prim.Native.Nat.{◌+◌, ◌*◌, ◌≤◌}
use lib.ListN.{length, drop}
use Rattle.cleaning.specs.Lines.{signed}
use Rattle.run_text.specs.lines.Parts.{spaced}
use Rattle.run_text.proofs.lines.Columns.{Going}
use Rattle.run_text.proofs.lines.put_deltas.Given as goal

abbrev pub invariant-loop-d : goal.invariant-loop-d
invariant-loop-d l =
    (l.d-index ≤ length l.ds) × (l.p ≤ l.at + 21 * l.d-index) × (length l.out ≡ length l.initial.out)
    × Going (spaced (map signed l.ds)) l.initial.out l.at l.out l.p (spaced (map signed (drop l.d-index l.ds)))
