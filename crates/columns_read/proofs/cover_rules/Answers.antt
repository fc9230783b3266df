use Rattle.columns_read.proofs.ThreeSets.{covered, uncovered}
use Rattle.columns_read.proofs.cover_rules.Goals as goal

pub returns-then-cover : goal.returns-then-cover
returns-then-cover c = search covered

pub returns : goal.returns
returns c = search uncovered
