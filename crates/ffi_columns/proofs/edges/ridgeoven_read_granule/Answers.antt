use Rattle.ffi_columns.proofs.Told.{granule-told, granule-written}
use Rattle.ffi_columns.proofs.edges.ridgeoven_read_granule.Goals as goal

pub returns-clause-value : goal.returns-clause-value
returns-clause-value c = search granule-told

pub returns-clause-forward_after : goal.returns-clause-forward_after
returns-clause-forward_after c = search granule-written

pub returns-clause-reverse_after : goal.returns-clause-reverse_after
returns-clause-reverse_after c = search granule-written

pub returns-clause-inbound_after : goal.returns-clause-inbound_after
returns-clause-inbound_after c = search granule-written
