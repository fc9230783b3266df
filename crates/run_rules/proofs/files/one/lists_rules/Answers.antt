use Rattle.run_rules.proofs.files.PartOrder.{lists-are}
use borrow.Author.Rules.{rules}
use Rattle.run_rules.proofs.files.one.lists_rules.Goals as goal

pub returns : goal.returns
returns c = search (rules, lists-are)
