use Rattle.run_rules.proofs.files.FileTurns.{seen-is, seen-fits}
use borrow.Author.Rules.{rules}
use Rattle.run_rules.proofs.files.all.see.Goals as goal

pub returns : goal.returns
returns c = (search (rules, seen-is), search (rules, seen-fits))
