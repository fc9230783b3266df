use Rattle.archive_write.proofs.Judged.{parts-differ, parts-agree}
use borrow.Author.Rules.{rules}
use Rattle.archive_write.proofs.rules.whole_unresolved.Goals as goal

pub returns-then-not-same_three : goal.returns-then-not-same_three
returns-then-not-same_three c = search (rules, parts-differ)

pub returns : goal.returns
returns c = search (rules, parts-agree)
