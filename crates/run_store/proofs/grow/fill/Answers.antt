use Rattle.run_store.proofs.grow.Turns.{fill-starts, all-filled, one-filled}
use borrow.Author.Rules.{rules}
use Rattle.run_store.proofs.grow.fill.Goals as goal

pub loop-i-init : goal.loop-i-init
loop-i-init c = (search rules, search fill-starts)

pub loop-i-preserved : goal.loop-i-preserved
loop-i-preserved c = (search rules, search one-filled)

pub returns : goal.returns
returns c = search all-filled
