use Rattle.run_state.proofs.ColumnTurns.{table-count, numbers-count, form-cut}
use Rattle.run_state.proofs.tests.order_ok.Goals as goal

pub slice_bounds-are_earlier-end : goal.slice_bounds-are_earlier-end
slice_bounds-are_earlier-end c = search table-count

pub slice_bounds-are_earlier-end-2 : goal.slice_bounds-are_earlier-end-2
slice_bounds-are_earlier-end-2 c = search numbers-count

pub are_earlier-requires-clause-offsets_value : goal.are_earlier-requires-clause-offsets_value
are_earlier-requires-clause-offsets_value c = search form-cut
