use Rattle.columns.proofs.Handed.{handed-on}
use Rattle.columns_read.proofs.ThreeSets.{edges-kept, edges-broken}
use Rattle.columns_read.proofs.edge_rules.Goals as goal

pub returns : goal.returns
returns c = search (edges-kept, c.in_ok-sets_rules.was)

pub returns-in_err-sets_rules : goal.returns-in_err-sets_rules
returns-in_err-sets_rules c = handed-on _ c.from_residual.ensures (search (edges-broken, c.in_err-sets_rules.was))
