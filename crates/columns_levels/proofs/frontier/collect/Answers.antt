use Rattle.columns_levels.proofs.frontier.Slots.{collect-one, collect-done}
use borrow.Author.Rules.{rules}
use Rattle.columns_levels.proofs.frontier.collect.Goals as goal

pub loop-i-preserved : goal.loop-i-preserved
loop-i-preserved c = (search rules, search rules, search rules, search rules, search collect-one)

pub returns-clause-keys : goal.returns-clause-keys
returns-clause-keys c = search collect-done
