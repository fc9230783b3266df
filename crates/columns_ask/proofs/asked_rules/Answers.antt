use Rattle.columns.proofs.Handed.{handed-on}
use Rattle.columns_ask.proofs.Asked.{over-children, few_children, sets-refused}
use Rattle.columns_ask.proofs.Limited.{readable-reverse, readable-inbound}
use Rattle.columns_ask.proofs.asked_rules.Goals as goal

pub are_children_over-requires-clause-readable : goal.are_children_over-requires-clause-readable
are_children_over-requires-clause-readable c = search (readable-reverse, c.in_ok-children_rules.was)

pub are_children_over-requires-clause-readable_2 : goal.are_children_over-requires-clause-readable_2
are_children_over-requires-clause-readable_2 c = search (readable-inbound, c.in_ok-children_rules.was)

pub returns-then-are_children_over : goal.returns-then-are_children_over
returns-then-are_children_over c = search (over-children, c.in_ok-children_rules.was)

pub returns : goal.returns
returns c = search (few_children, c.in_ok-children_rules.was)

pub returns-in_err-children_rules : goal.returns-in_err-children_rules
returns-in_err-children_rules c = handed-on _ c.from_residual.ensures (search (sets-refused, c.in_err-children_rules.was))
