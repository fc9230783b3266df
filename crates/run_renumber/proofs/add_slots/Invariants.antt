-- The invariant: the table holds the lists of the slots passed, and all lists are those with the ones of the slots that are left.
use mathlib.Core.List.{[]}
use mathlib.Core.Path.{◌≡◌}
use Prim.Native.Nat.{◌≤◌, ◌+◌, ◌*◌}
use lib.ListN.{length, take, drop}
use Rattle.columns.specs.EdgeSet.{cut}
use Rattle.columns.specs.Limits.{kinds}
use Rattle.run_renumber.specs.Answers.{Built}
use Rattle.run_renumber.specs.NewLists.{new_lists_from}
use Rattle.run_renumber.proofs.add_slots.Given as goal

abbrev pub invariant-loop-s : goal.invariant-loop-s
invariant-loop-s l =
    (l.s ≤ kinds * length l.flags) × (length l.offs ≡ length l.initial.offs) × (length l.all ≡ length l.initial.all)
    × Built l.offs l.all l.s l.end (cut (take (l.s + 1) l.offs) (take l.end l.all))
    × (new_lists_from kinds l.start l.flags l.numbers [] (cut l.offsets l.targets)
    ≡ new_lists_from kinds l.start l.flags l.numbers (cut (take (l.s + 1) l.offs) (take l.end l.all)) (drop l.s (cut l.offsets l.targets)))
