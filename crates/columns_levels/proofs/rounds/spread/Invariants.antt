-- The invariant: the parents of the keys passed are keys.
use mathlib.Core.Path.{◌≡◌}
use Prim.Native.Nat.{◌-◌}
use lib.ListN.{length, take}
use Rattle.columns_levels.specs.frontier.Frontier.{parents_in}
use Rattle.arrays.specs.table.Table.{Table}
use Rattle.columns_levels.specs.rounds.Closure.{Grown}
use Rattle.columns_levels.proofs.rounds.spread.Given as goal

abbrev pub invariant-loop-i : goal.invariant-loop-i
invariant-loop-i l =
    (length l.keys ≡ length l.initial.keys) × (length l.links ≡ length l.initial.links)
    × (length l.heads ≡ length l.initial.heads) × Table l.keys l.links l.heads l.n
    × Grown (parents_in l.p.width l.p.first l.p.kind l.p.offsets.now l.p.targets.now) l.a l.p.targets.now (take l.n l.keys) l.i

abbrev pub decreases-loop-i : goal.decreases-loop-i
decreases-loop-i l = length l.initial.keys - l.i
