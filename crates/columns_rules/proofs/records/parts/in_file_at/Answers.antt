use Rattle.columns_rules.proofs.records.RecordParts.{file-part, no_part}
use Rattle.columns_rules.proofs.records.parts.in_file_at.Goals as goal

pub returns-then-i-list : goal.returns-then-i-list
returns-then-i-list c = search file-part

pub returns : goal.returns
returns c = search no_part
