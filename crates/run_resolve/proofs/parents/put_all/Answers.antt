-- The parts are in form.
use Rattle.run_state.proofs.ColumnTurns.{table-count, numbers-count}
use Rattle.run_resolve.proofs.sheet.KeptColumns.{front-count, front-few}
use Rattle.run_resolve.proofs.sheet.Asking.{form-here}
use Rattle.run_resolve.proofs.parents.KeptLists.{numbers_fit, table-room, numbers-room, lists-counted}
use borrow.Author.Rules.{rules}
use Rattle.run_resolve.proofs.parents.put_all.Goals as goal

pub slice_bounds-new_numbers-end : goal.slice_bounds-new_numbers-end
slice_bounds-new_numbers-end c = search (rules, front-count)

pub new_numbers-numbers-requires : goal.new_numbers-numbers-requires
new_numbers-numbers-requires c = (search front-few, search numbers_fit)

pub slice_bounds-put_lists-end : goal.slice_bounds-put_lists-end
slice_bounds-put_lists-end c = search (rules, front-count)

pub slice_bounds-put_lists-end-3 : goal.slice_bounds-put_lists-end-3
slice_bounds-put_lists-end-3 c = search (rules, table-count)

pub slice_bounds-put_lists-end-4 : goal.slice_bounds-put_lists-end-4
slice_bounds-put_lists-end-4 c = search (rules, numbers-count)

pub put_lists-requires-clause-offsets_value : goal.put_lists-requires-clause-offsets_value
put_lists-requires-clause-offsets_value c = search form-here

pub put_lists-requires-clause-flags_in_bounds : goal.put_lists-requires-clause-flags_in_bounds
put_lists-requires-clause-flags_in_bounds c = (search table-room, search numbers-room)

pub returns-clause-fact : goal.returns-clause-fact
returns-clause-fact c = search lists-counted
