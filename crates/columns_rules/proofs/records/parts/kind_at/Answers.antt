use Rattle.columns_rules.proofs.records.RecordParts.{kind-part, no_part}
use Rattle.columns_rules.proofs.records.parts.kind_at.Goals as goal

pub returns-then-i-list : goal.returns-then-i-list
returns-then-i-list c = search kind-part

pub returns : goal.returns
returns c = search no_part
