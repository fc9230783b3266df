use Rattle.run_rules.proofs.parts.HeadTests.{near_same, near_none, near_next}
use Rattle.run_rules.proofs.parts.heads.is_near.Goals as goal

pub returns-then-g-last : goal.returns-then-g-last
returns-then-g-last c = search near_same

pub returns-then-g-eq0 : goal.returns-then-g-eq0
returns-then-g-eq0 c = search near_none

pub returns : goal.returns
returns c = search near_next
