use Rattle.run_store.proofs.names.NameTurns.{names-added}
use Rattle.run_store.proofs.names.add_names.Goals as goal

pub returns : goal.returns
returns c = search names-added
