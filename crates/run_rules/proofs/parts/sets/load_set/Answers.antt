use Rattle.run_rules.proofs.parts.SetOrder.{set-loaded, offsets-long, deltas-long}
use borrow.Author.Rules.{rules}
use Rattle.run_rules.proofs.parts.sets.load_set.Goals as goal

pub returns-clause-deltas_after : goal.returns-clause-deltas_after
returns-clause-deltas_after c = search (rules, set-loaded)

pub returns-clause-offsets_len : goal.returns-clause-offsets_len
returns-clause-offsets_len c = (search (rules, offsets-long), search (rules, deltas-long))
