use Rattle.columns_rules.proofs.records.RecordParts.{zero-part, no_part}
use Rattle.columns_rules.proofs.records.parts.zero_at.Goals as goal

pub returns-then-i-list : goal.returns-then-i-list
returns-then-i-list c = search zero-part

pub returns : goal.returns
returns c = search no_part
