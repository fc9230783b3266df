use mathlib.Core.Path.{◌≡◌}
use Prim.Native.Nat.{◌+◌, ◌-◌, ◌*◌, ◌≤◌}
use Rattle.run_list.specs.Groups.{need_of}
use Rattle.run_list.proofs.OverGroups.{need_from}
use Rattle.run_list.proofs.files.need_files.Given as goal

abbrev pub invariant-loop-g : goal.invariant-loop-g
invariant-loop-g l =
    (l.g ≤ l.n) × (l.total ≤ l.g * 387296) × (need_of l.z l.n l.rows l.offsets l.targets l.starts l.kids ≡ l.total + need_from l.z l.n l.rows l.offsets l.targets l.starts l.kids l.g)
