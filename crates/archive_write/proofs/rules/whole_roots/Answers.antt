use Rattle.archive_write.proofs.Judged.{handles-differ, handles-agree}
use borrow.Author.Rules.{rules}
use Rattle.archive_write.proofs.rules.whole_roots.Goals as goal

pub returns-then-handles-rows : goal.returns-then-handles-rows
returns-then-handles-rows c = search (rules, handles-differ)

pub returns : goal.returns
returns c = search (rules, handles-agree)
