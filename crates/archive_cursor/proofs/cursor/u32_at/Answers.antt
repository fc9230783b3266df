use Rattle.columns.proofs.Handed.{handed-on}
use Rattle.archive_cursor.proofs.Answers.{as-number}
use Rattle.archive_cursor.proofs.cursor.u32_at.Goals as goal

pub returns-in_err-n : goal.returns-in_err-n
returns-in_err-n c = handed-on _ c.from_residual.ensures (search (as-number, c.in_err-n.was))

pub returns : goal.returns
returns c = rw c.from.ensures (search (as-number, c.in_ok-n.was))
