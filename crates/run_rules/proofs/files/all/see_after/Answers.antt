use Rattle.run_rules.proofs.files.FileTurns.{seen-ends}
use borrow.Author.Rules.{rules}
use Rattle.run_rules.proofs.files.all.see_after.Goals as goal

pub returns : goal.returns
returns c = (search seen-ends, search rules)
