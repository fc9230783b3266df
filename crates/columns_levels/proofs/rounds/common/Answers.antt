use Rattle.columns_levels.proofs.rounds.Closed.{free-first, free-turn, free-done, common-hit}
use borrow.Author.Rules.{rules}
use Rattle.columns_levels.proofs.rounds.common.Goals as goal

pub loop-i-init : goal.loop-i-init
loop-i-init c = (search rules, search free-first)

pub returns-then-find : goal.returns-then-find
returns-then-find c = search common-hit

pub loop-i-preserved : goal.loop-i-preserved
loop-i-preserved c = (search rules, search free-turn)

pub returns : goal.returns
returns c = search free-done
