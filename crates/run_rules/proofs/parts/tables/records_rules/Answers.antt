use Rattle.run_rules.proofs.parts.RecordTurns.{roots-bad, then-records}
use Rattle.run_rules.proofs.parts.tables.records_rules.Goals as goal

pub returns-then-not-roots_in : goal.returns-then-not-roots_in
returns-then-not-roots_in c = search roots-bad

pub returns : goal.returns
returns c = search then-records
