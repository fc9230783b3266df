use Rattle.archive_cursor.proofs.Answers.{as-delta}
use Rattle.archive_cursor.proofs.cursor.i64_at.Goals as goal

pub returns : goal.returns
returns c = search as-delta
