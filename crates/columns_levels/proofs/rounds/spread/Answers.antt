use Rattle.columns_levels.proofs.rounds.Closed.{turn-grown, reach-done}
use borrow.Author.Rules.{rules}
use Rattle.columns_levels.proofs.rounds.spread.Goals as goal

pub loop-i-preserved : goal.loop-i-preserved
loop-i-preserved c = (search rules, search rules, search rules, search rules, search turn-grown)

pub returns-clause-all : goal.returns-clause-all
returns-clause-all c = search reach-done
