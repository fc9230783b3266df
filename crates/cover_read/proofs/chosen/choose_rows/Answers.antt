use Rattle.cover_read.proofs.chosen.Choosing.{sorted-count, sorted-level, sorted-rows}
use borrow.Author.Rules.{rules}
use Rattle.cover_read.proofs.chosen.choose_rows.Goals as goal

pub slice_bounds-choose-end : goal.slice_bounds-choose-end
slice_bounds-choose-end c = search (rules, sorted-count)

pub choose-requires : goal.choose-requires
choose-requires c = (search rules, (search rules, search sorted-level))

pub returns : goal.returns
returns c = (search rules, (search rules, search sorted-rows))
