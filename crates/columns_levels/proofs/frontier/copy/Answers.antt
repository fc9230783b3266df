use Rattle.columns_levels.proofs.frontier.Turns.{copy-starts, copy-turn, copy_done}
use borrow.Author.Rules.{rules}
use Rattle.columns_levels.proofs.frontier.copy.Goals as goal

pub loop-i-init : goal.loop-i-init
loop-i-init c = (search rules, search rules, search copy-starts)

pub loop-i-preserved : goal.loop-i-preserved
loop-i-preserved c = (search rules, search rules, search copy-turn)

pub returns : goal.returns
returns c = search copy_done
