-- The parts are in form.
use Rattle.run_state.proofs.ColumnTurns.{table-count, numbers-count}
use Rattle.run_resolve.proofs.sheet.KeptColumns.{front-count}
use Rattle.run_resolve.proofs.sheet.Asking.{form-here}
use borrow.Author.Rules.{rules}
use Rattle.run_resolve.proofs.sheet.asked.count_parts.Goals as goal

pub slice_bounds-count_reparented-end : goal.slice_bounds-count_reparented-end
slice_bounds-count_reparented-end c = search (rules, front-count)

pub slice_bounds-count_reparented-end-2 : goal.slice_bounds-count_reparented-end-2
slice_bounds-count_reparented-end-2 c = search (rules, table-count)

pub slice_bounds-count_reparented-end-3 : goal.slice_bounds-count_reparented-end-3
slice_bounds-count_reparented-end-3 c = search (rules, numbers-count)

pub count_reparented-requires : goal.count_reparented-requires
count_reparented-requires c = search form-here
