use Rattle.archive_write.proofs.Judged.{differ, so_far}
use Rattle.archive_write.proofs.rules.same_three.Goals as goal

pub returns-then-b-a : goal.returns-then-b-a
returns-then-b-a c = search differ

pub returns : goal.returns
returns c = search so_far
