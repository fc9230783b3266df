use Rattle.columns_rules.proofs.records.RecordParts.{child-bad, kind-bad, flag-bad, record-kept}
use Rattle.columns_rules.proofs.records.parts.unresolved_rule.Goals as goal

pub returns-then-not-in_file_at : goal.returns-then-not-in_file_at
returns-then-not-in_file_at c = search child-bad

pub returns-then-not-kind_at : goal.returns-then-not-kind_at
returns-then-not-kind_at c = search kind-bad

pub returns-then-not-zero_at : goal.returns-then-not-zero_at
returns-then-not-zero_at c = search flag-bad

pub returns : goal.returns
returns c = search record-kept
