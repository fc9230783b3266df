use Rattle.run_store.proofs.rows.RowTurns.{rows-added}
use Rattle.run_store.proofs.rows.add_rows.Goals as goal

pub returns : goal.returns
returns c = search rows-added
