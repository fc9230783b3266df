use Rattle.archive_write.proofs.Judged.{over, unfit, too-low, fit, first-of-three}
use borrow.Author.Rules.{rules}
use Rattle.archive_write.proofs.rules.unresolved_rules.Goals as goal

pub returns-then-is_over : goal.returns-then-is_over
returns-then-is_over c = search (rules, over)

pub returns-then-not-whole_unresolved : goal.returns-then-not-whole_unresolved
returns-then-not-whole_unresolved c = search (rules, unfit)

pub low_unresolved-requires : goal.low_unresolved-requires
low_unresolved-requires c = search (rules, first-of-three)

pub returns-then-low_unresolved : goal.returns-then-low_unresolved
returns-then-low_unresolved c = search (rules, too-low)

pub returns : goal.returns
returns c = search (rules, fit)
