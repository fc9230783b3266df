use Rattle.run_store.proofs.sets.SetTurns.{loaded-climbs, loaded-readable, set-added}
use borrow.Author.Rules.{rules}
use Rattle.run_store.proofs.sets.add_set.Goals as goal

pub add_offsets-requires-clause-rows_bound : goal.add_offsets-requires-clause-rows_bound
add_offsets-requires-clause-rows_bound c = (search rules, search rules)

pub add_offsets-requires-clause-count_bound : goal.add_offsets-requires-clause-count_bound
add_offsets-requires-clause-count_bound c = (search rules, search loaded-climbs)

pub add_targets-requires-clause-count_bound : goal.add_targets-requires-clause-count_bound
add_targets-requires-clause-count_bound c = ((search rules, search rules), (search rules, search rules))

pub add_targets-requires-clause-readable : goal.add_targets-requires-clause-readable
add_targets-requires-clause-readable c = search loaded-readable

pub returns : goal.returns
returns c = search set-added
