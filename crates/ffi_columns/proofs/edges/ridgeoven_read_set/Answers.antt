use Rattle.ffi_columns.proofs.Told.{unnamed-counted, unnamed-as-was, set_told, set-written}
use Rattle.ffi_columns.proofs.edges.ridgeoven_read_set.Goals as goal

pub returns-in_default-clause-value : goal.returns-in_default-clause-value
returns-in_default-clause-value c = search (unnamed-counted 2, c.in_default.ensures)

pub returns-in_default-clause-targets_after : goal.returns-in_default-clause-targets_after
returns-in_default-clause-targets_after c = search (unnamed-as-was 2, c.in_default.ensures)

pub returns-clause-value : goal.returns-clause-value
returns-clause-value c = search (set_told, c.in-Some.ensures)

pub returns-clause-targets_after : goal.returns-clause-targets_after
returns-clause-targets_after c = search (set-written, c.in-Some.ensures)
