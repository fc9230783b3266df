use Rattle.columns.proofs.Handed.{handed-on}
use Rattle.archive_write.proofs.Ended.{refused-told, refused-kept, written, head-ends, subject-fits}
use Rattle.archive_write.proofs.Judged.{fine-room}
use borrow.Author.Rules.{rules}
use Rattle.archive_write.proofs.writer.write_head.Goals as goal

pub record_head-requires : goal.record_head-requires
record_head-requires c = (search (rules, fine-room), search (rules, subject-fits))

pub returns-in_err-head_rules-clause-value : goal.returns-in_err-head_rules-clause-value
returns-in_err-head_rules-clause-value c = handed-on _ c.from_residual.ensures (search (refused-told, c.in_err-head_rules.was))

pub returns-in_err-head_rules-clause-out_after : goal.returns-in_err-head_rules-clause-out_after
returns-in_err-head_rules-clause-out_after c = search (refused-kept, c.in_err-head_rules.was)

pub returns-clause-value : goal.returns-clause-value
returns-clause-value c = search (rules, head-ends, c.in_ok-head_rules.was)

pub returns-clause-out_after : goal.returns-clause-out_after
returns-clause-out_after c = search (rules, written, c.in_ok-head_rules.was)
