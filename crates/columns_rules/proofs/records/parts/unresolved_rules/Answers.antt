use Rattle.columns.proofs.Handed.{handed-on}
use Rattle.columns_rules.proofs.records.RecordParts.{unresolved-done, unresolved-stop, unresolved-on, unresolved-all}
use borrow.Author.Rules.{rules}
use Rattle.columns_rules.proofs.records.parts.unresolved_rules.Goals as goal

pub loop-i-init : goal.loop-i-init
loop-i-init c = search (rules, unresolved-all)

pub returns-in_err-unresolved_rule : goal.returns-in_err-unresolved_rule
returns-in_err-unresolved_rule c = handed-on _ c.from_residual.ensures (search (unresolved-stop, c.in_err-unresolved_rule.was))

pub loop-i-preserved : goal.loop-i-preserved
loop-i-preserved c = search (rules, unresolved-on)

pub returns : goal.returns
returns c = search (rules, unresolved-done)
