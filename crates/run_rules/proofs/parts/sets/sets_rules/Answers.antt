use Rattle.columns.proofs.Handed.{handed-on}
use Rattle.run_rules.proofs.parts.SetOrder.{forward-bad, then-later}
use Rattle.run_rules.proofs.parts.sets.sets_rules.Goals as goal

pub returns-in_err-rule_set : goal.returns-in_err-rule_set
returns-in_err-rule_set c = handed-on _ c.from_residual.ensures (search (forward-bad, c.in_err-rule_set.was))

pub returns : goal.returns
returns c = search (then-later, c.in_ok-rule_set.was)
