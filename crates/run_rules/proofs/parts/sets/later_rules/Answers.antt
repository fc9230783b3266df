use Rattle.columns.proofs.Handed.{handed-on}
use Rattle.run_rules.proofs.parts.SetOrder.{reverse-bad, then-inbound}
use Rattle.run_rules.proofs.parts.sets.later_rules.Goals as goal

pub returns-in_err-rule_set : goal.returns-in_err-rule_set
returns-in_err-rule_set c = handed-on _ c.from_residual.ensures (search (reverse-bad, c.in_err-rule_set.was))

pub returns : goal.returns
returns c = search (then-inbound, c.in_ok-rule_set.was)
