use Rattle.archive_write.proofs.Judged.{over, unfit, too-low, fit, second-of-two}
use borrow.Author.Rules.{rules}
use Rattle.archive_write.proofs.rules.rows_rules.Goals as goal

pub returns-then-is_over : goal.returns-then-is_over
returns-then-is_over c = search (rules, over)

pub returns-then-not-same_two : goal.returns-then-not-same_two
returns-then-not-same_two c = search (rules, unfit)

pub low_rows-requires : goal.low_rows-requires
low_rows-requires c = search (rules, second-of-two)

pub returns-then-low_rows : goal.returns-then-low_rows
returns-then-low_rows c = search (rules, too-low)

pub returns : goal.returns
returns c = search (rules, fit)
