use Rattle.columns.proofs.Handed.{handed-on}
use Rattle.run_rules.proofs.parts.RecordTurns.{records-start, records-done, records-stop, records-on}
use borrow.Author.Rules.{rules}
use Rattle.run_rules.proofs.parts.tables.children_rules.Goals as goal

pub loop-i-init : goal.loop-i-init
loop-i-init c = (search rules, search rules, search records-start)

pub returns-in_err-child_rule : goal.returns-in_err-child_rule
returns-in_err-child_rule c = handed-on _ c.from_residual.ensures (search (records-stop, c.in_err-child_rule.was))

pub loop-i-preserved : goal.loop-i-preserved
loop-i-preserved c = search (rules, records-on)

pub returns : goal.returns
returns c = search (rules, records-done)
