use Rattle.run_store.proofs.parts.Made.{new-made}
use Rattle.run_store.proofs.parts.with_new.Goals as goal

pub returns : goal.returns
returns c = search new-made
