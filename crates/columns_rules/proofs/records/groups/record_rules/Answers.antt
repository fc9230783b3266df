use Rattle.columns.proofs.Handed.{handed-on}
use Rattle.columns_rules.proofs.records.RecordOrder.{records-stop, records-then}
use Rattle.columns_rules.proofs.records.groups.record_rules.Goals as goal

pub returns-in_err-unresolved_rules : goal.returns-in_err-unresolved_rules
returns-in_err-unresolved_rules c = handed-on _ c.from_residual.ensures (search (records-stop, c.in_err-unresolved_rules.was))

pub returns : goal.returns
returns c = search (records-then, c.in_ok-unresolved_rules.was)
