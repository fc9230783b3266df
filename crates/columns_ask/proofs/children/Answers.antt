use Rattle.columns.proofs.Handed.{handed-on}
use Rattle.columns_ask.proofs.Asked.{reverse-readable, inbound-readable, children-counted, children-written, children-refused, children-as-were}
use Rattle.columns_ask.proofs.Found.{kind-in}
use Rattle.columns_ask.proofs.children.Goals as goal

pub asked_rules-requires-clause-kind_lt_width : goal.asked_rules-requires-clause-kind_lt_width
asked_rules-requires-clause-kind_lt_width c = search kind-in

pub write_children-requires-clause-kind_lt_width : goal.write_children-requires-clause-kind_lt_width
write_children-requires-clause-kind_lt_width c = search kind-in

pub write_children-requires-clause-readable : goal.write_children-requires-clause-readable
write_children-requires-clause-readable c = search (reverse-readable, c.in_ok-asked_rules.was)

pub write_children-requires-clause-readable_2 : goal.write_children-requires-clause-readable_2
write_children-requires-clause-readable_2 c = search (inbound-readable, c.in_ok-asked_rules.was)

pub returns-clause-value : goal.returns-clause-value
returns-clause-value c = search (children-counted, c.in_ok-asked_rules.was)

pub returns-clause-out_after : goal.returns-clause-out_after
returns-clause-out_after c = search (children-written, c.in_ok-asked_rules.was)

pub returns-in_err-asked_rules-clause-value : goal.returns-in_err-asked_rules-clause-value
returns-in_err-asked_rules-clause-value c = handed-on _ c.from_residual.ensures (search (children-refused, c.in_err-asked_rules.was))

pub returns-in_err-asked_rules-clause-out_after : goal.returns-in_err-asked_rules-clause-out_after
returns-in_err-asked_rules-clause-out_after c = search (children-as-were, c.in_err-asked_rules.was)
