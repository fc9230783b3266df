use Rattle.archive_read.proofs.bodies.AtTables.{no-roots}
use Rattle.archive_read.proofs.bodies.rows_rise.Goals as goal

pub returns-then-n-eq0 : goal.returns-then-n-eq0
returns-then-n-eq0 c = search no-roots
