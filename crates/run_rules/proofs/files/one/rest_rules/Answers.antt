use Rattle.columns.proofs.Handed.{handed-on}
use Rattle.run_rules.proofs.files.PartOrder.{edges-bad, then_tail}
use Rattle.run_rules.proofs.files.one.rest_rules.Goals as goal

pub returns-in_err-edges_rules : goal.returns-in_err-edges_rules
returns-in_err-edges_rules c = handed-on _ c.from_residual.ensures (search (edges-bad, c.in_err-edges_rules.was))

pub returns : goal.returns
returns c = search (then_tail, c.in_ok-edges_rules.was)
