-- The invariant: the keys so far, and the rest of the list still to put in.
use Rattle.std.proofs.Common.{◌≡◌, length, take}
use lib.Seq.{slice}
use Rattle.arrays.specs.table.Table.{Table, adds_cap}
use Rattle.arrays.proofs.table.add_list.Given as goal

abbrev pub invariant-loop-i : goal.invariant-loop-i
invariant-loop-i l =
    (length l.keys ≡ length l.initial.keys) × (length l.links ≡ length l.initial.links) × (length l.heads ≡ length l.initial.heads)
    × Table l.keys l.links l.heads l.m × (adds_cap (length l.initial.keys) (take l.n l.initial.keys) (slice l.a l.b l.src) ≡ adds_cap (length l.initial.keys) (take l.m l.keys) (slice l.i l.b l.src))
