use Rattle.run_store.proofs.sets.SetTurns.{set-loaded, table-long, numbers-long}
use borrow.Author.Rules.{rules}
use Rattle.run_store.proofs.sets.read_columns.Goals as goal

pub returns-clause-deltas_after : goal.returns-clause-deltas_after
returns-clause-deltas_after c = search (rules, set-loaded)

pub returns-clause-offsets_len : goal.returns-clause-offsets_len
returns-clause-offsets_len c = (search (rules, table-long), search (rules, numbers-long))
