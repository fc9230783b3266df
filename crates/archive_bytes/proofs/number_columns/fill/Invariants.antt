use Rattle.std.proofs.Common.{◌≡◌, ◌≤◌, ◌+◌, ◌-◌, ◌*◌, length, map}
use lib.Seq.{sets}
use Rattle.archive_bytes.specs.Bytes.{column}
use Rattle.archive_bytes.proofs.number_columns.fill.Given as goal

abbrev pub invariant-loop-i : goal.invariant-loop-i
invariant-loop-i g l =
    let m = g.T.BigEndian in
    (l.i ≤ l.n) × (l.p + (l.n - l.i) * m.WIDTH ≤ length l.bytes) × (length l.out ≡ length l.initial.out)
    × (sets l.initial.out 0 (map m.number_of (column m.WIDTH l.n l.bytes l.at)) ≡ sets l.out l.i (map m.number_of (column m.WIDTH (l.n - l.i) l.bytes l.p)))
