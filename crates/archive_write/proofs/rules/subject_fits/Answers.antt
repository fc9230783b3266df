use Rattle.archive_write.proofs.Judged.{no-subject, some-subject}
use Rattle.archive_write.proofs.rules.subject_fits.Goals as goal

pub returns-then-n-eq0 : goal.returns-then-n-eq0
returns-then-n-eq0 c = search no-subject

pub returns : goal.returns
returns c = search some-subject
