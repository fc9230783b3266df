use Rattle.archive_read.specs.Layout.{covered_with}
use Rattle.archive_read.proofs.records.tail_of.Goals as goal

pub returns-in-None : goal.returns-in-None
unfolding covered_with
returns-in-None c = cc

pub returns-in-Some : goal.returns-in-Some
unfolding covered_with
returns-in-Some c = cc
