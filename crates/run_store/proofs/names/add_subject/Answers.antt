use Rattle.run_store.proofs.names.NameTurns.{fresh-put, fresh-not}
use Rattle.run_store.proofs.names.add_subject.Goals as goal

pub returns-then-fresh : goal.returns-then-fresh
returns-then-fresh c = search fresh-put

pub returns : goal.returns
returns c = search fresh-not
