use Rattle.columns_rules.proofs.records.RecordParts.{early-part, past-part, no_part}
use Rattle.columns_rules.proofs.records.parts.past_file_at.Goals as goal

pub returns-then-x-first : goal.returns-then-x-first
returns-then-x-first c = search early-part

pub returns-then-i-list : goal.returns-then-i-list
returns-then-i-list c = search past-part

pub returns : goal.returns
returns c = search no_part
