use Rattle.columns.proofs.Handed.{handed-on}
use Rattle.archive_write.proofs.Ended.{refused-told, refused-kept, written, rows_end, rows-even, rows_short}
use Rattle.archive_write.proofs.Judged.{fine-room}
use borrow.Author.Rules.{rules}
use Rattle.archive_write.proofs.writer.write_rows.Goals as goal

pub record_rows-requires : goal.record_rows-requires
record_rows-requires c = (search (rules, rows-even), search (rules, fine-room), search (rules, rows_short))

pub returns-in_err-rows_rules-clause-value : goal.returns-in_err-rows_rules-clause-value
returns-in_err-rows_rules-clause-value c = handed-on _ c.from_residual.ensures (search (refused-told, c.in_err-rows_rules.was))

pub returns-in_err-rows_rules-clause-out_after : goal.returns-in_err-rows_rules-clause-out_after
returns-in_err-rows_rules-clause-out_after c = search (refused-kept, c.in_err-rows_rules.was)

pub returns-clause-value : goal.returns-clause-value
returns-clause-value c = search (rules, rows_end, c.in_ok-rows_rules.was)

pub returns-clause-out_after : goal.returns-clause-out_after
returns-clause-out_after c = search (rules, written, c.in_ok-rows_rules.was)
