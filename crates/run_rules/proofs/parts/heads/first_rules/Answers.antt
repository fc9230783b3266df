use Rattle.run_rules.proofs.parts.HeadTests.{group-late, group-first}
use Rattle.run_rules.proofs.parts.heads.first_rules.Goals as goal

pub returns-then-group-ne0 : goal.returns-then-group-ne0
returns-then-group-ne0 c = search group-late

pub returns : goal.returns
returns c = search group-first
