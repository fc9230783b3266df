use Rattle.columns_rules.proofs.FileOrder.{no-subject, some-subject}
use Rattle.run_rules.proofs.parts.heads.subject_fits.Goals as goal

pub returns-then-subject-eq0 : goal.returns-then-subject-eq0
returns-then-subject-eq0 c = search no-subject

pub returns : goal.returns
returns c = search some-subject
