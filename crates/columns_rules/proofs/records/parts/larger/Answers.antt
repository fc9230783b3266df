use Rattle.columns_rules.proofs.records.RecordParts.{larger-first, larger-second}
use Rattle.columns_rules.proofs.records.parts.larger.Goals as goal

pub returns-then-a-b : goal.returns-then-a-b
returns-then-a-b c = search larger-second

pub returns : goal.returns
returns c = search larger-first
