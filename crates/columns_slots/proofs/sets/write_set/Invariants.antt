use mathlib.Core.Path.{◌≡◌}
use Prim.Native.Nat.{◌<◌, ◌+◌, ◌*◌, ◌-◌, ◌≤◌}
use lib.ListN.{length, get_or}
use lib.Seq.{sets}
use Rattle.columns_slots.proofs.sets.Writes.{onward}
use Rattle.columns_slots.proofs.sets.write_set.Given as goal

abbrev pub invariant-loop-slot : goal.invariant-loop-slot
invariant-loop-slot l =
    (l.slot ≡ l.width * l.row) × (l.row ≤ l.slot) × (l.slot < length l.s.offsets.now) × (l.at ≡ get_or l.s.offsets.now l.slot 0) × (length l.out ≡ length l.initial.out)
    × (length (onward l.width l.first l.s.offsets.now l.s.deltas.now 0) ≡ l.at + length (onward l.width l.first l.s.offsets.now l.s.deltas.now l.slot))
    × (sets l.initial.out 0 (onward l.width l.first l.s.offsets.now l.s.deltas.now 0) ≡ sets l.out l.at (onward l.width l.first l.s.offsets.now l.s.deltas.now l.slot))

abbrev pub decreases-loop-slot : goal.decreases-loop-slot
decreases-loop-slot l = length l.s.offsets.now - l.slot
