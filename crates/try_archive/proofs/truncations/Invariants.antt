use Rattle.std.proofs.Common.{◌≤◌, ◌-◌, length}
use Rattle.try_archive.proofs.truncations.Given as goal

abbrev pub invariant-loop-k : goal.invariant-loop-k
invariant-loop-k l = (l.n ≤ l.k) × (l.k ≤ length l.bytes)
