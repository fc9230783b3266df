-- Its columns are kept in place.
use Rattle.run_resolve.proofs.sheet.KeptColumns.{rows_counted}
use Rattle.run_resolve.proofs.sheet.kept.kept_rows.Goals as goal

pub returns : goal.returns
returns c = search rows_counted
