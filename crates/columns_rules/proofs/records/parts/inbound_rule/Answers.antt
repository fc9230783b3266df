use Rattle.columns_rules.proofs.records.RecordParts.{in-child-bad, in-parent-bad, in-kind-bad, edge_kept}
use Rattle.columns_rules.proofs.records.parts.inbound_rule.Goals as goal

pub returns-then-not-past_file_at : goal.returns-then-not-past_file_at
returns-then-not-past_file_at c = search in-child-bad

pub returns-then-not-in_file_at : goal.returns-then-not-in_file_at
returns-then-not-in_file_at c = search in-parent-bad

pub returns-then-not-kind_at : goal.returns-then-not-kind_at
returns-then-not-kind_at c = search in-kind-bad

pub returns : goal.returns
returns c = search edge_kept
