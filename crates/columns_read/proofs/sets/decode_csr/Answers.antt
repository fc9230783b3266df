use Rattle.columns.proofs.Handed.{handed-on}
use Rattle.columns.proofs.Checks.{readable, set-counted, set-written, set-refused, set-as-was}
use Rattle.columns_read.proofs.sets.decode_csr.Goals as goal

pub write-requires-clause-readable : goal.write-requires-clause-readable
write-requires-clause-readable c = search (readable, c.in_ok-csr_rules.was)

pub returns-clause-value : goal.returns-clause-value
returns-clause-value c = search (set-counted, c.in_ok-csr_rules.was)

pub returns-clause-targets_after : goal.returns-clause-targets_after
returns-clause-targets_after c = search (set-written, c.in_ok-csr_rules.was)

pub returns-in_err-csr_rules-clause-value : goal.returns-in_err-csr_rules-clause-value
returns-in_err-csr_rules-clause-value c = handed-on _ c.from_residual.ensures (search (set-refused, c.in_err-csr_rules.was))

pub returns-in_err-csr_rules-clause-targets_after : goal.returns-in_err-csr_rules-clause-targets_after
returns-in_err-csr_rules-clause-targets_after c = search (set-as-was, c.in_err-csr_rules.was)
