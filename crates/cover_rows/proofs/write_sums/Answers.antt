use Rattle.cover_rows.proofs.Columned.{fits-start, sum_fits, fits_on, sums-over, summed, sums_on}
use borrow.Author.Rules.{rules}
use Rattle.cover_rows.proofs.write_sums.Goals as goal

pub loop-i-init : goal.loop-i-init
loop-i-init c = (search rules, search rules, search fits-start, search sums-over)

pub overflow_add-sum : goal.overflow_add-sum
overflow_add-sum c = search sum_fits

pub loop-i-preserved : goal.loop-i-preserved
loop-i-preserved c = (search rules, search rules, search fits_on, search sums_on)

pub returns : goal.returns
returns c = search summed
