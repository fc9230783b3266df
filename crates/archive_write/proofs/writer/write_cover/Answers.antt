use Rattle.columns.proofs.Handed.{handed-on}
use Rattle.archive_write.proofs.Ended.{refused-told, refused-kept, written, cover-ends, minima-even, maxima-even, cover-short}
use Rattle.archive_write.proofs.Judged.{fine-room}
use borrow.Author.Rules.{rules}
use Rattle.archive_write.proofs.writer.write_cover.Goals as goal

pub record_cover-requires-clause-d_in_bounds : goal.record_cover-requires-clause-d_in_bounds
record_cover-requires-clause-d_in_bounds c = search (rules, fine-room)

pub record_cover-requires-clause-minima_len : goal.record_cover-requires-clause-minima_len
record_cover-requires-clause-minima_len c = (search (rules, minima-even), search (rules, maxima-even), search (rules, cover-short))

pub returns-in_err-cover_rules-clause-value : goal.returns-in_err-cover_rules-clause-value
returns-in_err-cover_rules-clause-value c = handed-on _ c.from_residual.ensures (search (refused-told, c.in_err-cover_rules.was))

pub returns-in_err-cover_rules-clause-out_after : goal.returns-in_err-cover_rules-clause-out_after
returns-in_err-cover_rules-clause-out_after c = search (refused-kept, c.in_err-cover_rules.was)

pub returns-clause-value : goal.returns-clause-value
returns-clause-value c = search (rules, cover-ends, c.in_ok-cover_rules.was)

pub returns-clause-out_after : goal.returns-clause-out_after
returns-clause-out_after c = search (rules, written, c.in_ok-cover_rules.was)
