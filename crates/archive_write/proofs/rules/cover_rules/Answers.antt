use Rattle.archive_write.proofs.Judged.{over, unfit, too-low, fit, records-few}
use borrow.Author.Rules.{rules}
use Rattle.archive_write.proofs.rules.cover_rules.Goals as goal

pub returns-then-is_over : goal.returns-then-is_over
returns-then-is_over c = search (rules, over)

pub returns-then-not-same_cover : goal.returns-then-not-same_cover
returns-then-not-same_cover c = search (rules, unfit)

pub low_cover-requires : goal.low_cover-requires
low_cover-requires c = search (rules, records-few)

pub returns-then-low_cover : goal.returns-then-low_cover
returns-then-low_cover c = search (rules, too-low)

pub returns : goal.returns
returns c = search (rules, fit)
