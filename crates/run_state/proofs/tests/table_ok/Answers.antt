use Rattle.run_state.proofs.ColumnTurns.{table-count}
use Rattle.run_state.proofs.tests.table_ok.Goals as goal

pub slice_bounds-is_form-end : goal.slice_bounds-is_form-end
slice_bounds-is_form-end c = search table-count
