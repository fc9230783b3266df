use Rattle.run_rules.proofs.parts.HeadTests.{other-group, same_group}
use Rattle.run_rules.proofs.parts.heads.is_alike.Goals as goal

pub returns-then-group-last : goal.returns-then-group-last
returns-then-group-last c = search other-group

pub returns : goal.returns
returns c = search same_group
