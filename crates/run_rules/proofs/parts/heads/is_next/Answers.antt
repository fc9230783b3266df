use Rattle.run_rules.proofs.parts.HeadTests.{not_same, then-end}
use Rattle.run_rules.proofs.parts.heads.is_next.Goals as goal

pub returns-then-not-same_bytes : goal.returns-then-not-same_bytes
returns-then-not-same_bytes c = search not_same

pub returns : goal.returns
returns c = search then-end
