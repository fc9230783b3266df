use Prim.Native.Nat.{◌+◌, ◌-◌, ◌≤◌}
use mathlib.Core.Path.{◌≡◌}
use lib.ListN.{length}
use Rattle.run_text.proofs.lines.Columns.{Going}
use Rattle.run_list.specs.Groups.{lines_of, need_of}
use Rattle.run_list.proofs.OverGroups.{lines_from, need_from}
use Rattle.run_list.proofs.files.put_files.Given as goal

abbrev pub invariant-loop-g : goal.invariant-loop-g
invariant-loop-g l =
    (l.g ≤ l.n) × (length l.out ≡ length l.initial.out) × (l.p + need_from l.z l.n l.rows l.offsets l.targets l.starts l.kids l.g ≤ l.at + need_of l.z l.n l.rows l.offsets l.targets l.starts l.kids)
    × Going (lines_of l.z l.n l.rows l.offsets l.targets l.starts l.kids) l.initial.out l.at l.out l.p (lines_from l.z l.n l.rows l.offsets l.targets l.starts l.kids l.g)
