use borrow.Author.Rules.{rules}
use Rattle.columns_rules.specs.seqs.Earlier.{earlier_labels}
use Rattle.columns_rules.proofs.seqs.LabelTurns.{seqs-done, seq-falls, seqs-on}
use Rattle.columns_rules.proofs.seqs.rise_in.Goals as goal

pub loop-n-init : goal.loop-n-init
unfolding earlier_labels
loop-n-init c = search rules

pub returns-then-not-take_row : goal.returns-then-not-take_row
returns-then-not-take_row c = search (rules, seq-falls)

pub loop-n-preserved : goal.loop-n-preserved
loop-n-preserved c = (search rules, search rules, search rules, search rules, search (rules, seqs-on))

pub returns : goal.returns
returns c = search (rules, seqs-done)
