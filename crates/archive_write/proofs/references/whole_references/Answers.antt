use Rattle.archive_write.proofs.references.Asked.{columns-uneven, cut-otherwise, cites_none, columns_decide}
use Rattle.archive_write.proofs.references.whole_references.Goals as goal

pub returns-then-not-same_three : goal.returns-then-not-same_three
returns-then-not-same_three c = search columns-uneven

pub returns-then-not-is_cut : goal.returns-then-not-is_cut
returns-then-not-is_cut c = search cut-otherwise

pub returns-then-kinds-eq0 : goal.returns-then-kinds-eq0
returns-then-kinds-eq0 c = search cites_none

pub returns : goal.returns
returns c = search columns_decide
