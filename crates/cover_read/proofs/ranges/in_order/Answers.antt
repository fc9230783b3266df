use Rattle.cover_read.proofs.Ranged.{ordered-done, ordered-not, ordered-on}
use borrow.Author.Rules.{rules}
use Rattle.cover_read.proofs.ranges.in_order.Goals as goal

pub returns-then-maxima-i : goal.returns-then-maxima-i
returns-then-maxima-i c = search ordered-not

pub loop-i-preserved : goal.loop-i-preserved
loop-i-preserved c = (search rules, search ordered-on)

pub returns : goal.returns
returns c = search ordered-done
