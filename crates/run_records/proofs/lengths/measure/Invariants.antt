use Prim.Native.Nat.{◌≤◌}
use Rattle.run_section.specs.Tables.{sheet_of}
use Rattle.run_records.proofs.Going.{Going}
use Rattle.run_records.proofs.lengths.measure.Given as goal

abbrev pub invariant-loop-g : goal.invariant-loop-g
invariant-loop-g l =
    (l.g ≤ l.groups.count) × Going (sheet_of l.z l.subject l.groups l.rows l.unresolved l.roots l.links l.offsets l.targets) l.groups.count l.g l.total
