use Rattle.columns_rules.proofs.records.RecordParts.{longest-says}
use Rattle.columns_rules.proofs.records.parts.longest.Goals as goal

pub returns : goal.returns
returns c = search longest-says
