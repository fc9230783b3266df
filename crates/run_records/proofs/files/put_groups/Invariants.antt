use Prim.Native.Nat.{◌-◌}
use Rattle.run_section.specs.Tables.{sheet_of}
use Rattle.run_records.proofs.Rest.{Left}
use Rattle.run_records.proofs.files.put_groups.Given as goal

abbrev pub invariant-loop-g : goal.invariant-loop-g
invariant-loop-g l =
    Left (sheet_of l.z l.subject l.groups l.rows l.unresolved l.roots l.links l.offsets l.targets) l.groups.count l.initial.out l.out l.at l.g
