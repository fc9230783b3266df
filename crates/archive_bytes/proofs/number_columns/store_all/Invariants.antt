use Rattle.std.proofs.Common.{◌≡◌, ◌≤◌, ◌+◌, ◌-◌, ◌*◌, length, map}
use lib.Seq.{sets, slice}
use Rattle.lists.specs.Lists.{flat}
use Rattle.archive_bytes.specs.Bytes.{bytes_of}
use Rattle.archive_bytes.proofs.number_columns.store_all.Given as goal

abbrev pub invariant-loop-i : goal.invariant-loop-i
invariant-loop-i g l =
    let m = g.T.BigEndian in
    (l.i ≤ l.n) × (l.p + (l.n - l.i) * m.WIDTH ≤ length l.out) × (length l.out ≡ length l.initial.out)
    × (sets l.initial.out l.at (flat (bytes_of m.WIDTH) (map m.bits_of (slice 0 l.n l.xs))) ≡ sets l.out l.p (flat (bytes_of m.WIDTH) (map m.bits_of (slice l.i l.n l.xs))))
