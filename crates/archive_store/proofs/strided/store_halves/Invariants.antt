use Rattle.std.proofs.Common.{◌+◌, ◌-◌, ◌*◌, ◌^◌, ◌<◌, ◌≤◌, get_or, drop}
use Rattle.lists.specs.Lists.{Each, flat}
use Rattle.lists.proofs.Storing.{Storing}
use Rattle.archive_bytes.specs.Bytes.{bytes_of, several}
use Rattle.archive_store.proofs.strided.store_halves.Given as goal

abbrev pub invariant-loop-i : goal.invariant-loop-i
invariant-loop-i l =
    (l.i ≤ l.n) × Each (λ x. x < 2 ^ 32) (several l.width (λ l. get_or l 0 0) (l.n - l.i) (drop (l.p + l.i * l.width) l.table))
    × Storing l.initial.out l.at (flat (bytes_of 4) (several l.width (λ l. get_or l 0 0) l.n (drop l.p l.table))) l.out (l.at + 4 * l.i)
    (flat (bytes_of 4) (several l.width (λ l. get_or l 0 0) (l.n - l.i) (drop (l.p + l.i * l.width) l.table)))
