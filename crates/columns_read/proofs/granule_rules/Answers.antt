use Rattle.columns.proofs.Handed.{handed-on}
use Rattle.columns_read.proofs.ThreeSets.{granule-kept, granule-broken}
use Rattle.columns_read.proofs.granule_rules.Goals as goal

pub returns : goal.returns
returns c = search (granule-kept, c.in_ok-limit_rules.was)

pub returns-in_err-limit_rules : goal.returns-in_err-limit_rules
returns-in_err-limit_rules c = handed-on _ c.from_residual.ensures (search (granule-broken, c.in_err-limit_rules.was))
