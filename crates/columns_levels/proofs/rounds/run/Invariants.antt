-- The invariant: what was laid out, and the levels that the definition still has.
use mathlib.Core.Path.{◌≡◌}
use Prim.Native.Nat.{◌≤◌, ◌<◌, ◌+◌, ◌-◌}
use lib.ListN.{length, take, drop}
use lib.Seq.{slice}
use Rattle.columns_levels.specs.frontier.Frontier.{parents_in, Seen}
use Rattle.arrays.specs.table.Table.{Table}
use Rattle.columns.specs.Walk.{levels_from}
use Rattle.columns_levels.specs.rounds.Rounds.{Going}
use Rattle.columns_levels.proofs.rounds.run.Given as goal

abbrev pub invariant-loop-lo : goal.invariant-loop-lo
invariant-loop-lo l =
    (l.lo < l.m) × (1 ≤ l.m)
    × (l.k + 1 ≤ l.m) × (l.m ≤ l.n) × (l.left + l.m ≡ l.limit + 1) × (length l.buf ≡ length l.initial.buf) × (length l.ends ≡ length l.initial.ends) × (length l.keys ≡ length l.initial.keys)
    × (length l.links ≡ length l.initial.links) × (length l.heads ≡ length l.initial.heads) × (length l.w ≡ length l.initial.w)
    × Table l.keys l.links l.heads l.n × Seen l.left l.n (take l.m l.buf) l.keys l.p.targets.now
    × (drop l.k l.ends ≡ drop l.k l.initial.ends)
    × Going (levels_from (parents_in l.p.width l.p.first l.p.kind l.p.offsets.now l.p.targets.now) l.limit l.limit (take 1 l.initial.buf) (take 1 l.initial.buf))
    (levels_from (parents_in l.p.width l.p.first l.p.kind l.p.offsets.now l.p.targets.now) (l.limit - l.k) l.left (take l.m l.buf) (slice l.lo l.m l.buf)) l.buf l.ends l.m l.k

abbrev pub decreases-loop-lo : goal.decreases-loop-lo
decreases-loop-lo l = l.limit + 1 - l.lo
