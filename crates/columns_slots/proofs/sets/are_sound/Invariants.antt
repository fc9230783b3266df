use mathlib.Core.Path.{◌≡◌}
use Prim.Native.Nat.{◌*◌, ◌≤◌, ◌<◌}
use lib.ListN.{length, drop}
use Rattle.columns.specs.EdgeSet.{cut}
use Rattle.columns.specs.Reading.{sound_from}
use Rattle.columns_slots.proofs.sets.are_sound.Given as goal

abbrev pub invariant-loop-row : goal.invariant-loop-row
invariant-loop-row l =
    (l.row ≤ l.rows) × (l.slot ≡ l.width * l.row) × (l.slot < length l.s.offsets.now)
    × (sound_from l.width l.set l.first l.end 0 (cut l.s.offsets.now l.s.deltas.now) ≡ sound_from l.width l.set l.first l.end l.slot (drop l.slot (cut l.s.offsets.now l.s.deltas.now)))
