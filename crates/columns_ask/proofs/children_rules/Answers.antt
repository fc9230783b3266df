use Rattle.columns.proofs.Handed.{handed-on}
use Rattle.columns_ask.proofs.Limited.{children-kept, children-broken}
use Rattle.columns_ask.proofs.children_rules.Goals as goal

pub returns : goal.returns
returns c = search (children-kept, c.in_ok-limit_rules.was)

pub returns-in_err-limit_rules : goal.returns-in_err-limit_rules
returns-in_err-limit_rules c = handed-on _ c.from_residual.ensures (search (children-broken, c.in_err-limit_rules.was))
