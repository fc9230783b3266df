use Rattle.columns.proofs.Handed.{handed-on}
use borrow.Author.Rules.{rules}
use Rattle.columns.proofs.Checks.{readable}
use Rattle.columns_ask.proofs.Found.{kind-in}
use Rattle.columns_ask.proofs.Asked.{parents-counted, parents-written, parents-refused, parents-as-were}
use Rattle.columns_ask.proofs.parents.Goals as goal

pub write_list-requires-clause-kind_lt_width : goal.write_list-requires-clause-kind_lt_width
write_list-requires-clause-kind_lt_width c = (search kind-in, search rules)

pub write_list-requires-clause-readable : goal.write_list-requires-clause-readable
write_list-requires-clause-readable c = search (readable, c.in_ok-csr_rules.was)

pub returns-clause-value : goal.returns-clause-value
returns-clause-value c = search (parents-counted, c.in_ok-csr_rules.was)

pub returns-clause-out_after : goal.returns-clause-out_after
returns-clause-out_after c = search (parents-written, c.in_ok-csr_rules.was)

pub returns-in_err-csr_rules-clause-value : goal.returns-in_err-csr_rules-clause-value
returns-in_err-csr_rules-clause-value c = handed-on _ c.from_residual.ensures (search (parents-refused, c.in_err-csr_rules.was))

pub returns-in_err-csr_rules-clause-out_after : goal.returns-in_err-csr_rules-clause-out_after
returns-in_err-csr_rules-clause-out_after c = search (parents-as-were, c.in_err-csr_rules.was)
