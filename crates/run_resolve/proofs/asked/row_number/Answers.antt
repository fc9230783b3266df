use Rattle.run_resolve.proofs.OldNumbers.{row-erased, row_kept}
use Rattle.run_resolve.proofs.asked.row_number.Goals as goal

pub returns-then-flags-i-ne0 : goal.returns-then-flags-i-ne0
returns-then-flags-i-ne0 c = search row-erased

pub returns : goal.returns
returns c = search row_kept
