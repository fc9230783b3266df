use Rattle.columns.proofs.Handed.{handed-on}
use Rattle.columns_rules.proofs.ParentTurns.{slots-done, slots-stop, slots-on}
use borrow.Author.Rules.{rules}
use Rattle.columns_rules.proofs.slots.slot_rules.Goals as goal

pub returns-in_err-slot_rule : goal.returns-in_err-slot_rule
returns-in_err-slot_rule c = handed-on _ c.from_residual.ensures (search (slots-stop, c.in_err-slot_rule.was))

pub loop-s-preserved : goal.loop-s-preserved
loop-s-preserved c = search (rules, slots-on)

pub returns : goal.returns
returns c = search (rules, slots-done)
