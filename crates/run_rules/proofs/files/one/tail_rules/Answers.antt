use Rattle.columns.proofs.Handed.{handed-on}
use Rattle.run_rules.proofs.files.PartOrder.{lists-bad, then-cover}
use Rattle.run_rules.proofs.files.one.tail_rules.Goals as goal

pub returns-in_err-lists_rules : goal.returns-in_err-lists_rules
returns-in_err-lists_rules c = handed-on _ c.from_residual.ensures (search (lists-bad, c.in_err-lists_rules.was))

pub returns : goal.returns
returns c = search (then-cover, c.in_ok-lists_rules.was)
