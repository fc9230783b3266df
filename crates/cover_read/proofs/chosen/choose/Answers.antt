use Rattle.cover_read.proofs.chosen.Choosing.{chosen-all, chosen_more}
use borrow.Author.Rules.{rules}
use Rattle.cover_read.proofs.chosen.choose.Goals as goal

pub loop-i-preserved : goal.loop-i-preserved
loop-i-preserved c = (search rules, search rules, search rules, search rules, search chosen_more)

pub returns : goal.returns
returns c = (search rules, (search rules, search chosen-all))
