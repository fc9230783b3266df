use Rattle.run_store.proofs.parts.Made.{subject-made}
use Rattle.run_store.proofs.parts.with_subject.Goals as goal

pub returns : goal.returns
returns c = search subject-made
