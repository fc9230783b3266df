use native.Mathlib.Omega.{arith}
use mathlib.Core.Path.{sym, ◌∙◌}
use Rattle.archive_cursor.proofs.Answers.{short, long}
use Rattle.archive_bytes.proofs.Cells.{be-one}
use Rattle.archive_cursor.proofs.cursor.u8_at.Goals as goal

pub returns-then-bytes-at : goal.returns-then-bytes-at
returns-then-bytes-at c = short _ _ 1 (omega arith)

pub returns : goal.returns
returns c = long _ _ 1 (omega arith) (c.from.ensures ∙ sym (be-one _ _))
