use Rattle.archive_write.proofs.Judged.{over, unfit, too-low, fit, first-of-two}
use borrow.Author.Rules.{rules}
use Rattle.archive_write.proofs.rules.roots_rules.Goals as goal

pub returns-then-is_over : goal.returns-then-is_over
returns-then-is_over c = search (rules, over)

pub returns-then-not-whole_roots : goal.returns-then-not-whole_roots
returns-then-not-whole_roots c = search (rules, unfit)

pub low_roots-requires : goal.low_roots-requires
low_roots-requires c = search (rules, first-of-two)

pub returns-then-low_roots : goal.returns-then-low_roots
returns-then-low_roots c = search (rules, too-low)

pub returns : goal.returns
returns c = search (rules, fit)
