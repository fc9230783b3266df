use Rattle.run_store.proofs.records.RecordTurns.{roots-added}
use Rattle.run_store.proofs.records.put_roots.Goals as goal

pub returns : goal.returns
returns c = search roots-added
