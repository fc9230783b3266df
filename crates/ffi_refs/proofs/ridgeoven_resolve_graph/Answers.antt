use Rattle.ffi_refs.proofs.Answered.{answered}
use Rattle.ffi_refs.proofs.ridgeoven_resolve_graph.Goals as goal

pub returns : goal.returns
returns c = search answered
