use Rattle.columns_read.proofs.ThreeSets.{first_short, second_short, third-short}
use Rattle.columns_read.proofs.is_any_short.Goals as goal

pub returns-then-f-lt4096 : goal.returns-then-f-lt4096
returns-then-f-lt4096 c = search first_short

pub returns-then-r-lt4096 : goal.returns-then-r-lt4096
returns-then-r-lt4096 c = search second_short

pub returns : goal.returns
returns c = search third-short
