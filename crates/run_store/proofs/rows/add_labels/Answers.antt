use Rattle.run_store.proofs.rows.RowTurns.{chains-none, seqs-none, chains-some, seqs-some}
use Rattle.run_store.proofs.turns.Turns.{cover-there}
use borrow.Author.Rules.{rules}
use Rattle.run_store.proofs.rows.add_labels.Goals as goal

pub returns-then-not-t-clause-chains_after : goal.returns-then-not-t-clause-chains_after
returns-then-not-t-clause-chains_after c = search chains-none

pub returns-then-not-t-clause-seqs_after : goal.returns-then-not-t-clause-seqs_after
returns-then-not-t-clause-seqs_after c = search seqs-none

pub cover_labels-requires : goal.cover_labels-requires
cover_labels-requires c = (search cover-there, search rules)

pub returns-clause-chains_after : goal.returns-clause-chains_after
returns-clause-chains_after c = search chains-some

pub returns-clause-seqs_after : goal.returns-clause-seqs_after
returns-clause-seqs_after c = search seqs-some
