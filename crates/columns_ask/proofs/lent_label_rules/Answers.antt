use Rattle.columns.proofs.Handed.{handed-on}
use Rattle.columns_ask.proofs.Limited.{labels_in, labels-out}
use Rattle.columns_ask.proofs.lent_label_rules.Goals as goal

pub returns : goal.returns
returns c = search (labels_in, c.in_ok-limit_rules.was)

pub returns-in_err-limit_rules : goal.returns-in_err-limit_rules
returns-in_err-limit_rules c = handed-on _ c.from_residual.ensures (search (labels-out, c.in_err-limit_rules.was))
