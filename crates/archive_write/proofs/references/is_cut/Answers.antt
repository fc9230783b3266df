use Rattle.archive_write.proofs.references.Turns.{no-offset, late-start, climbs-from}
use Rattle.archive_write.proofs.references.is_cut.Goals as goal

pub returns-then-offsets-eq0 : goal.returns-then-offsets-eq0
returns-then-offsets-eq0 c = search no-offset

pub returns-then-offsets-ne0 : goal.returns-then-offsets-ne0
returns-then-offsets-ne0 c = search late-start

pub returns : goal.returns
returns c = search climbs-from
