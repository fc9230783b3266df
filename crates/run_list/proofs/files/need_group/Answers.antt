use Rattle.run_list.proofs.OneFile.{need-told}
use borrow.Author.Rules.{rules}
use Rattle.run_list.proofs.files.need_group.Goals as goal

pub returns : goal.returns
returns c = (search (rules, need-told), search rules)
