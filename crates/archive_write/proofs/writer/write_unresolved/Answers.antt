use Rattle.columns.proofs.Handed.{handed-on}
use Rattle.archive_write.proofs.Ended.{refused-told, refused-kept, written, unresolved-end, kinds-even, handles-even, unresolved-short}
use Rattle.archive_write.proofs.Judged.{fine-room}
use borrow.Author.Rules.{rules}
use Rattle.archive_write.proofs.writer.write_unresolved.Goals as goal

pub record_unresolved-requires-clause-kinds_len : goal.record_unresolved-requires-clause-kinds_len
record_unresolved-requires-clause-kinds_len c = (search (rules, kinds-even), search (rules, handles-even))

pub record_unresolved-requires-clause-children_in_bounds : goal.record_unresolved-requires-clause-children_in_bounds
record_unresolved-requires-clause-children_in_bounds c = (search (rules, fine-room), search (rules, unresolved-short))

pub returns-in_err-unresolved_rules-clause-value : goal.returns-in_err-unresolved_rules-clause-value
returns-in_err-unresolved_rules-clause-value c = handed-on _ c.from_residual.ensures (search (refused-told, c.in_err-unresolved_rules.was))

pub returns-in_err-unresolved_rules-clause-out_after : goal.returns-in_err-unresolved_rules-clause-out_after
returns-in_err-unresolved_rules-clause-out_after c = search (refused-kept, c.in_err-unresolved_rules.was)

pub returns-clause-value : goal.returns-clause-value
returns-clause-value c = search (rules, unresolved-end, c.in_ok-unresolved_rules.was)

pub returns-clause-out_after : goal.returns-clause-out_after
returns-clause-out_after c = search (rules, written, c.in_ok-unresolved_rules.was)
