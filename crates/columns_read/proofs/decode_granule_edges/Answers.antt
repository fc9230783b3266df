use Rattle.columns.proofs.Handed.{handed-on}
use Rattle.columns_read.proofs.ThreeSets.{forward-readable, reverse-readable, inbound-readable, granule-counted, forward-written, reverse-written, inbound-written}
use Rattle.columns_read.proofs.ThreeSets.{granule-refused, granule-as-was}
use Rattle.columns_read.proofs.decode_granule_edges.Goals as goal

pub write_granule-requires-clause-readable : goal.write_granule-requires-clause-readable
write_granule-requires-clause-readable c = search (forward-readable, c.in_ok-granule_rules.was)

pub write_granule-requires-clause-readable_2 : goal.write_granule-requires-clause-readable_2
write_granule-requires-clause-readable_2 c = search (reverse-readable, c.in_ok-granule_rules.was)

pub write_granule-requires-clause-readable_3 : goal.write_granule-requires-clause-readable_3
write_granule-requires-clause-readable_3 c = search (inbound-readable, c.in_ok-granule_rules.was)

pub returns-clause-value : goal.returns-clause-value
returns-clause-value c = search (granule-counted, c.in_ok-granule_rules.was)

pub returns-clause-forward_after : goal.returns-clause-forward_after
returns-clause-forward_after c = search (forward-written, c.in_ok-granule_rules.was)

pub returns-clause-reverse_after : goal.returns-clause-reverse_after
returns-clause-reverse_after c = search (reverse-written, c.in_ok-granule_rules.was)

pub returns-clause-inbound_after : goal.returns-clause-inbound_after
returns-clause-inbound_after c = search (inbound-written, c.in_ok-granule_rules.was)

pub returns-in_err-granule_rules-clause-value : goal.returns-in_err-granule_rules-clause-value
returns-in_err-granule_rules-clause-value c = handed-on _ c.from_residual.ensures (search (granule-refused, c.in_err-granule_rules.was))

pub returns-in_err-granule_rules-clause-forward_after : goal.returns-in_err-granule_rules-clause-forward_after
returns-in_err-granule_rules-clause-forward_after c = search (granule-as-was, c.in_err-granule_rules.was)

pub returns-in_err-granule_rules-clause-reverse_after : goal.returns-in_err-granule_rules-clause-reverse_after
returns-in_err-granule_rules-clause-reverse_after c = search (granule-as-was, c.in_err-granule_rules.was)

pub returns-in_err-granule_rules-clause-inbound_after : goal.returns-in_err-granule_rules-clause-inbound_after
returns-in_err-granule_rules-clause-inbound_after c = search (granule-as-was, c.in_err-granule_rules.was)
