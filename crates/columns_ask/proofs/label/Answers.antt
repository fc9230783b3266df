use Rattle.columns.proofs.Handed.{handed-on}
use Rattle.columns_ask.proofs.Limited.{as_many, short-chains, short-seqs}
use Rattle.columns_ask.proofs.Labels.{label_kept, label-refused}
use Rattle.columns_ask.proofs.label.Goals as goal

pub label_at-requires : goal.label_at-requires
label_at-requires c = (search (as_many, c.in_ok-lent_label_rules.was), (search (short-chains, c.in_ok-lent_label_rules.was), search (short-seqs, c.in_ok-lent_label_rules.was)))

pub returns : goal.returns
returns c = search (label_kept, c.in_ok-lent_label_rules.was)

pub returns-in_err-lent_label_rules : goal.returns-in_err-lent_label_rules
returns-in_err-lent_label_rules c = handed-on _ c.from_residual.ensures (search (label-refused, c.in_err-lent_label_rules.was))
