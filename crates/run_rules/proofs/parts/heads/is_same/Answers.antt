use Rattle.run_rules.proofs.parts.HeadTests.{beq-true, beq-false}
use Rattle.run_rules.proofs.parts.heads.is_same.Goals as goal

pub returns-then-a : goal.returns-then-a
returns-then-a c = search beq-true

pub returns-else-a : goal.returns-else-a
returns-else-a c = search beq-false
