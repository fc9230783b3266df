use Rattle.archive_write.proofs.Judged.{rows-differ, rows_agree}
use borrow.Author.Rules.{rules}
use Rattle.archive_write.proofs.rules.whole_sets.Goals as goal

pub returns-then-fo : goal.returns-then-fo
returns-then-fo c = search (rules, rows-differ)

pub returns : goal.returns
returns c = search (rules, rows_agree)
