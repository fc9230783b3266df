use Rattle.columns.proofs.Handed.{handed-on}
use Rattle.archive_write.proofs.Ended.{refused-told, refused-kept, written, references-end, references-cited, references-short}
use Rattle.archive_write.proofs.Judged.{fine-room}
use borrow.Author.Rules.{rules}
use Rattle.archive_write.proofs.writer.write_references.Goals as goal

pub record_references-requires-clause-cited : goal.record_references-requires-clause-cited
record_references-requires-clause-cited c = search (rules, references-cited)

pub record_references-requires-clause-kinds_in_bounds : goal.record_references-requires-clause-kinds_in_bounds
record_references-requires-clause-kinds_in_bounds c = (search (rules, fine-room), search (rules, references-short))

pub returns-in_err-references_rules-clause-value : goal.returns-in_err-references_rules-clause-value
returns-in_err-references_rules-clause-value c = handed-on _ c.from_residual.ensures (search (refused-told, c.in_err-references_rules.was))

pub returns-in_err-references_rules-clause-out_after : goal.returns-in_err-references_rules-clause-out_after
returns-in_err-references_rules-clause-out_after c = search (refused-kept, c.in_err-references_rules.was)

pub returns-clause-value : goal.returns-clause-value
returns-clause-value c = search (rules, references-end, c.in_ok-references_rules.was)

pub returns-clause-out_after : goal.returns-clause-out_after
returns-clause-out_after c = search (rules, written, c.in_ok-references_rules.was)
