use Rattle.std.proofs.Common.{◌≡◌, ◌≤◌, ◌<◌, ◌-◌, length}
use Rattle.try_archive.proofs.changes_at.Given as goal

abbrev pub invariant-loop-v : goal.invariant-loop-v
invariant-loop-v l = (l.n ≤ l.v) × (l.v ≤ 256) × (length l.bytes ≡ length l.initial.bytes) × (l.i < length l.bytes)
