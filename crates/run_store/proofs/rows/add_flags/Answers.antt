use Rattle.run_store.proofs.rows.RowTurns.{flags_added}
use Rattle.run_store.proofs.rows.add_flags.Goals as goal

pub returns : goal.returns
returns c = search flags_added
