use Rattle.run_store.proofs.records.RecordTurns.{unresolved-added}
use Rattle.run_store.proofs.records.put_unresolved.Goals as goal

pub returns : goal.returns
returns c = search unresolved-added
