use mathlib.Core.Path.{refl}
use Rattle.archive_cursor.proofs.Answers.{as-number}
use Rattle.archive_cursor.proofs.cursor.u64_at.Goals as goal

pub returns : goal.returns
returns c = as-number 8 _ _ c.number.ensures refl
