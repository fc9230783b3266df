use Rattle.archive_read.specs.Layout.{cited_tail}
use Rattle.archive_read.proofs.records.cite.Goals as goal

pub returns-in-Some : goal.returns-in-Some
unfolding cited_tail
returns-in-Some c = cc
