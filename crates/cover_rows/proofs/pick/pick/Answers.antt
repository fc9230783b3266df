use Rattle.cover_rows.proofs.pick.Picking.{picks_start, row_in, row_fits, picks_done, picks-on}
use borrow.Author.Rules.{rules}
use Rattle.cover_rows.proofs.pick.pick.Goals as goal

pub loop-i-init : goal.loop-i-init
loop-i-init c = search (rules, picks_start)

pub offset_bounds-column-r : goal.offset_bounds-column-r
offset_bounds-column-r c = search row_fits

pub bounds-column-r : goal.bounds-column-r
bounds-column-r c = search (rules, row_in)

pub loop-i-preserved : goal.loop-i-preserved
loop-i-preserved c = search (rules, picks-on)

pub returns : goal.returns
returns c = search (rules, picks_done)
