use Rattle.cover_rows.proofs.Columned.{over-sets, copied}
use Rattle.cover_read.proofs.chosen.Choosing.{widens}
use borrow.Author.Rules.{rules}
use Rattle.cover_read.proofs.chosen.widen.Goals as goal

pub loop-i-init : goal.loop-i-init
loop-i-init c = search (rules, over-sets)

pub loop-i-preserved : goal.loop-i-preserved
loop-i-preserved c = search (rules, widens)

pub returns : goal.returns
returns c = search (rules, copied)
