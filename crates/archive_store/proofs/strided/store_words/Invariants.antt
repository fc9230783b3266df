use Rattle.std.proofs.Common.{◌+◌, ◌-◌, ◌*◌, ◌≤◌, get_or, drop}
use Rattle.lists.specs.Lists.{flat}
use Rattle.lists.proofs.Storing.{Storing}
use Rattle.archive_bytes.specs.Bytes.{bytes_of, several}
use Rattle.archive_store.proofs.strided.store_words.Given as goal

abbrev pub invariant-loop-i : goal.invariant-loop-i
invariant-loop-i l =
    (l.i ≤ l.n) × Storing l.initial.out l.at (flat (bytes_of 8) (several l.width (λ l. get_or l 0 0) l.n (drop l.p l.table))) l.out (l.at + 8 * l.i)
    (flat (bytes_of 8) (several l.width (λ l. get_or l 0 0) (l.n - l.i) (drop (l.p + l.i * l.width) l.table)))
