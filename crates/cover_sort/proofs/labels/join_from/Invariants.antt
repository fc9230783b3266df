use Rattle.std.proofs.Common.{◌≡◌, ◌+◌, ◌<◌, length, drop}
use Rattle.cover.specs.Answers.{range_columns}
use Rattle.cover_sort.specs.labels.Runs.{runs, put_ranges}
use Rattle.cover_sort.proofs.labels.join_from.Given as goal

abbrev pub invariant-loop-i : goal.invariant-loop-i
invariant-loop-i l =
    (l.at < l.i) × (length l.ids ≡ length l.initial.ids)
    × (length l.minima ≡ length l.initial.minima) × (length l.maxima ≡ length l.initial.maxima)
    × (length (runs l.start l.start (drop 1 l.keys)) ≡ l.at + length (runs l.first l.last (drop l.i l.keys)))
    × (put_ranges 0 (runs l.start l.start (drop 1 l.keys)) (range_columns l.initial.ids l.initial.minima l.initial.maxima)
    ≡ put_ranges l.at (runs l.first l.last (drop l.i l.keys)) (range_columns l.ids l.minima l.maxima))
