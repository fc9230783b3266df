use Rattle.ffi_build.proofs.Told.{build-told, offsets-written, deltas-written}
use Rattle.ffi_build.proofs.ridgeoven_build.Goals as goal

pub returns-clause-value : goal.returns-clause-value
returns-clause-value c = search build-told

pub returns-clause-fo_after : goal.returns-clause-fo_after
returns-clause-fo_after c = search offsets-written

pub returns-clause-fd_after : goal.returns-clause-fd_after
returns-clause-fd_after c = search deltas-written

pub returns-clause-ro_after : goal.returns-clause-ro_after
returns-clause-ro_after c = search offsets-written

pub returns-clause-rd_after : goal.returns-clause-rd_after
returns-clause-rd_after c = search deltas-written

pub returns-clause-io_after : goal.returns-clause-io_after
returns-clause-io_after c = search offsets-written

pub returns-clause-id_after : goal.returns-clause-id_after
returns-clause-id_after c = search deltas-written
