-- The invariant: the rest of the bucket decides.
use Rattle.std.proofs.Common.{◌≡◌, ◌≤◌}
use Rattle.arrays.specs.table.Table.{newest}
use Rattle.arrays.proofs.table.follow.Given as goal

abbrev pub invariant-loop-i : goal.invariant-loop-i
invariant-loop-i l = (l.i ≤ l.n) × (newest l.top l.keys l.links l.top l.x ≡ newest l.i l.keys l.links l.i l.x)

abbrev pub decreases-loop-i : goal.decreases-loop-i
decreases-loop-i l = l.i
