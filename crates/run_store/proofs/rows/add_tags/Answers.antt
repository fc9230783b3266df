use Rattle.run_store.proofs.rows.RowTurns.{tags-added}
use Rattle.run_store.proofs.rows.add_tags.Goals as goal

pub returns : goal.returns
returns c = search tags-added
