use Rattle.run_list.proofs.OverGroups.{all-need, need-more, need-done}
use borrow.Author.Rules.{rules}
use Rattle.run_list.proofs.files.need_files.Goals as goal

pub loop-g-init : goal.loop-g-init
loop-g-init c = search (rules, all-need)

pub loop-g-preserved : goal.loop-g-preserved
loop-g-preserved c = search (rules, need-more)

pub returns : goal.returns
returns c = (search (rules, need-done), search rules)
