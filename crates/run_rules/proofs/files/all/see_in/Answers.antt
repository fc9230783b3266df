use Rattle.run_rules.proofs.files.FileTurns.{seen-cut}
use borrow.Author.Rules.{rules}
use Rattle.run_rules.proofs.files.all.see_in.Goals as goal

pub returns : goal.returns
returns c = (search seen-cut, search rules)
