use Rattle.columns.proofs.Handed.{handed-on}
use Rattle.columns_read.proofs.ThreeSets.{sets-kept, sets-broken}
use Rattle.columns_read.proofs.sets_rules.Goals as goal

pub returns : goal.returns
returns c = search (sets-kept, c.in_ok-rules.was)

pub returns-in_err-rules : goal.returns-in_err-rules
returns-in_err-rules c = handed-on _ c.from_residual.ensures (search (sets-broken, c.in_err-rules.was))
