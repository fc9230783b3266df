use Rattle.columns.proofs.Handed.{handed-on}
use Rattle.run_rules.proofs.files.PartOrder.{own-bad, then-back}
use Rattle.run_rules.proofs.files.one.named_rules.Goals as goal

pub returns-in_err-own_rules : goal.returns-in_err-own_rules
returns-in_err-own_rules c = handed-on _ c.from_residual.ensures (search (own-bad, c.in_err-own_rules.was))

pub returns : goal.returns
returns c = search (then-back, c.in_ok-own_rules.was)
