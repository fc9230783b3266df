use Rattle.cover_read.proofs.Climbing.{rose, falls, rises-on}
use borrow.Author.Rules.{rules}
use Rattle.cover_read.proofs.ranges.rise_from.Goals as goal

pub returns-then-ids-i : goal.returns-then-ids-i
returns-then-ids-i c = search falls

pub loop-i-preserved : goal.loop-i-preserved
loop-i-preserved c = (search rules, search rises-on)

pub returns : goal.returns
returns c = search rose
