use Rattle.std.proofs.Common.{◌≡◌, ◌+◌, ◌-◌, ◌≤◌, length}
use lib.Seq.{slice}
use Rattle.lists.specs.Lists.{filter}
use Rattle.columns.specs.Building.{in_file}
use Rattle.archive_store.proofs.sections.count_between.Given as goal

abbrev pub invariant-loop-j : goal.invariant-loop-j
invariant-loop-j l =
    (l.from ≤ l.j) × (l.j ≤ l.to) × (l.k ≤ l.j - l.from) × (length (filter (in_file l.low l.high) (slice l.from l.to l.list)) ≡ l.k + length (filter (in_file l.low l.high) (slice l.j l.to l.list)))
