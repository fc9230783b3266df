use Rattle.columns.proofs.Handed.{handed-on}
use Rattle.columns_rules.proofs.records.RecordParts.{inbound-done, inbound-stop, inbound-on, inbound-all}
use borrow.Author.Rules.{rules}
use Rattle.columns_rules.proofs.records.parts.inbound_rules.Goals as goal

pub loop-i-init : goal.loop-i-init
loop-i-init c = search (rules, inbound-all)

pub returns-in_err-inbound_rule : goal.returns-in_err-inbound_rule
returns-in_err-inbound_rule c = handed-on _ c.from_residual.ensures (search (inbound-stop, c.in_err-inbound_rule.was))

pub loop-i-preserved : goal.loop-i-preserved
loop-i-preserved c = search (rules, inbound-on)

pub returns : goal.returns
returns c = search (rules, inbound-done)
