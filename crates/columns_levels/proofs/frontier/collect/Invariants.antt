-- The invariant: the keys so far, and the parents of the rest still to put in.
use mathlib.Core.Path.{◌≡◌}
use lib.ListN.{length, take}
use lib.Seq.{slice}
use Rattle.columns_levels.specs.frontier.Frontier.{parents_in}
use Rattle.lists.specs.Lists.{flat}
use Rattle.arrays.specs.table.Table.{Table, adds_cap}
use Rattle.columns_levels.proofs.frontier.collect.Given as goal

abbrev pub invariant-loop-i : goal.invariant-loop-i
invariant-loop-i l =
    (length l.keys ≡ length l.initial.keys) × (length l.links ≡ length l.initial.links)
    × (length l.heads ≡ length l.initial.heads) × Table l.keys l.links l.heads l.m
    × (adds_cap (length l.initial.keys) (take l.n l.initial.keys) (flat (parents_in l.p.width l.p.first l.p.kind l.p.offsets.now l.p.targets.now) (slice l.lo l.hi l.list))
    ≡ adds_cap (length l.initial.keys) (take l.m l.keys) (flat (parents_in l.p.width l.p.first l.p.kind l.p.offsets.now l.p.targets.now) (slice l.i l.hi l.list)))
