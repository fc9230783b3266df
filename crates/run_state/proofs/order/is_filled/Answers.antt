use Rattle.run_state.proofs.order.Turns.{rows_within, filled_is}
use Rattle.run_state.proofs.order.is_filled.Goals as goal

pub reaches_all-requires : goal.reaches_all-requires
reaches_all-requires c = search rows_within

pub returns : goal.returns
returns c = search filled_is
