use Rattle.columns.proofs.Handed.{handed-on}
use Rattle.archive_write.proofs.Ended.{refused-told, refused-kept, written, edges-end, edges-short}
use Rattle.archive_write.proofs.Judged.{fine-room}
use borrow.Author.Rules.{rules}
use Rattle.archive_write.proofs.writer.write_edges.Goals as goal

pub record_edges-requires-clause-id_in_bounds : goal.record_edges-requires-clause-id_in_bounds
record_edges-requires-clause-id_in_bounds c = search (rules, fine-room)

pub record_edges-requires-clause-id_bound : goal.record_edges-requires-clause-id_bound
record_edges-requires-clause-id_bound c = search (rules, edges-short)

pub returns-in_err-edges_rules-clause-value : goal.returns-in_err-edges_rules-clause-value
returns-in_err-edges_rules-clause-value c = handed-on _ c.from_residual.ensures (search (refused-told, c.in_err-edges_rules.was))

pub returns-in_err-edges_rules-clause-out_after : goal.returns-in_err-edges_rules-clause-out_after
returns-in_err-edges_rules-clause-out_after c = search (refused-kept, c.in_err-edges_rules.was)

pub returns-clause-value : goal.returns-clause-value
returns-clause-value c = search (rules, edges-end, c.in_ok-edges_rules.was)

pub returns-clause-out_after : goal.returns-clause-out_after
returns-clause-out_after c = search (rules, written, c.in_ok-edges_rules.was)
