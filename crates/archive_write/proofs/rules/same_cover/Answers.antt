use Rattle.archive_write.proofs.Judged.{labels-differ, ranges-differ, links-differ, links-same}
use Rattle.archive_write.proofs.rules.same_cover.Goals as goal

pub returns-then-seqs-chains : goal.returns-then-seqs-chains
returns-then-seqs-chains c = search labels-differ

pub returns-then-not-same_three : goal.returns-then-not-same_three
returns-then-not-same_three c = search ranges-differ

pub returns-then-b-a : goal.returns-then-b-a
returns-then-b-a c = search links-differ

pub returns : goal.returns
returns c = search links-same
