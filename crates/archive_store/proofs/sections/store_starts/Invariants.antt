use Rattle.std.proofs.Common.{◌≡◌, ◌+◌, ◌*◌, ◌≤◌, length, drop}
use Rattle.columns.specs.Limits.{kinds}
use Rattle.lists.specs.Lists.{joined, starts}
use Rattle.lists.proofs.Storing.{Storing}
use Rattle.columns.specs.Building.{rows_within}
use Rattle.archive.specs.Encode.{column_bytes}
use Rattle.archive_store.proofs.sections.store_starts.Given as goal

abbrev pub invariant-loop-q : goal.invariant-loop-q
invariant-loop-q l =
    (l.q ≤ 2 * l.n)
    × (length (joined (rows_within kinds l.low l.high l.from l.n l.offsets l.targets)) ≡ l.sum + length (joined (drop l.q (rows_within kinds l.low l.high l.from l.n l.offsets l.targets))))
    × Storing l.initial.out l.at (column_bytes 8 (starts 0 (rows_within kinds l.low l.high l.from l.n l.offsets l.targets))) l.out l.p
    (column_bytes 8 (starts l.sum (drop l.q (rows_within kinds l.low l.high l.from l.n l.offsets l.targets))))
