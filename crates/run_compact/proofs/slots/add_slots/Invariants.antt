-- The invariant: the table holds the lists passed whose rows survive, and the kept lists are those with the kept ones of the slots that are left.
use mathlib.Core.Path.{◌≡◌}
use mathlib.Core.List.{◌++◌}
use Prim.Native.Nat.{◌≤◌, ◌+◌, ◌*◌}
use lib.ListN.{length, take, drop, get_or}
use Rattle.columns.specs.EdgeSet.{cut}
use Rattle.columns.specs.Limits.{kinds}
use Rattle.run_renumber.specs.Answers.{Built}
use Rattle.run_compact.specs.slots.Slots.{slots_from}
use Rattle.run_compact.proofs.slots.add_slots.Given as goal

abbrev pub invariant-loop-s : goal.invariant-loop-s
invariant-loop-s l =
    (l.s ≤ kinds * length l.flags) × (l.k ≤ l.s) × (l.end ≤ get_or l.offsets l.s 0) × (length l.offs ≡ length l.initial.offs) × (length l.all ≡ length l.initial.all)
    × Built l.offs l.all l.k l.end (cut (take (l.k + 1) l.offs) (take l.end l.all))
    × (slots_from l.flags 0 (cut l.offsets l.targets) ≡ cut (take (l.k + 1) l.offs) (take l.end l.all) ++ slots_from l.flags l.s (drop l.s (cut l.offsets l.targets)))
