use Rattle.archive_write.proofs.Judged.{over, unfit, too-low, fit, subject-few}
use borrow.Author.Rules.{rules}
use Rattle.archive_write.proofs.rules.head_rules.Goals as goal

pub returns-then-is_over : goal.returns-then-is_over
returns-then-is_over c = search (rules, over)

pub returns-then-not-subject_fits : goal.returns-then-not-subject_fits
returns-then-not-subject_fits c = search (rules, unfit)

pub low_head-requires : goal.low_head-requires
low_head-requires c = search (rules, subject-few)

pub returns-then-low_head : goal.returns-then-low_head
returns-then-low_head c = search (rules, too-low)

pub returns : goal.returns
returns c = search (rules, fit)
