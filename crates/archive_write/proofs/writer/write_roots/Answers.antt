use Rattle.columns.proofs.Handed.{handed-on}
use Rattle.archive_write.proofs.Ended.{refused-told, refused-kept, written, roots-end, roots-even, roots-short}
use Rattle.archive_write.proofs.Judged.{fine-room}
use borrow.Author.Rules.{rules}
use Rattle.archive_write.proofs.writer.write_roots.Goals as goal

pub record_roots-requires : goal.record_roots-requires
record_roots-requires c = (search (rules, roots-even), search (rules, fine-room), search (rules, roots-short))

pub returns-in_err-roots_rules-clause-value : goal.returns-in_err-roots_rules-clause-value
returns-in_err-roots_rules-clause-value c = handed-on _ c.from_residual.ensures (search (refused-told, c.in_err-roots_rules.was))

pub returns-in_err-roots_rules-clause-out_after : goal.returns-in_err-roots_rules-clause-out_after
returns-in_err-roots_rules-clause-out_after c = search (refused-kept, c.in_err-roots_rules.was)

pub returns-clause-value : goal.returns-clause-value
returns-clause-value c = search (rules, roots-end, c.in_ok-roots_rules.was)

pub returns-clause-out_after : goal.returns-clause-out_after
returns-clause-out_after c = search (rules, written, c.in_ok-roots_rules.was)
