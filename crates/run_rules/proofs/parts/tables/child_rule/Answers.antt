use Rattle.run_rules.proofs.parts.RecordTurns.{child-outside, kind-late, child-kept}
use Rattle.run_rules.proofs.parts.tables.child_rule.Goals as goal

pub returns-then-not-is_in_file : goal.returns-then-not-is_in_file
returns-then-not-is_in_file c = search child-outside

pub returns-then-kind-ge2 : goal.returns-then-kind-ge2
returns-then-kind-ge2 c = search kind-late

pub returns : goal.returns
returns c = search child-kept
