use Rattle.columns.proofs.Handed.{handed-on}
use Rattle.columns.proofs.Checks.{lent-kept, lent-broken}
use Rattle.columns_slots.proofs.sets.csr_rules.Goals as goal

pub returns : goal.returns
returns c = search (lent-kept, c.in_ok-limit_rules.was)

pub returns-in_err-limit_rules : goal.returns-in_err-limit_rules
returns-in_err-limit_rules c = handed-on _ c.from_residual.ensures (search (lent-broken, c.in_err-limit_rules.was))
