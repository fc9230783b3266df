use Rattle.columns.proofs.Handed.{handed-on}
use Rattle.run_rules.proofs.files.PartOrder.{head-bad, then-rest, numbers_fit}
use Rattle.run_rules.proofs.files.one.file_rules.Goals as goal

pub rest_rules-requires-clause-rows_bound : goal.rest_rules-requires-clause-rows_bound
rest_rules-requires-clause-rows_bound c = search (numbers_fit, c.in_ok-front_rules.was)

pub returns-in_err-front_rules : goal.returns-in_err-front_rules
returns-in_err-front_rules c = handed-on _ c.from_residual.ensures (search (head-bad, c.in_err-front_rules.was))

pub returns : goal.returns
returns c = search (then-rest, c.in_ok-front_rules.was)
