use Rattle.run_rules.proofs.files.PartOrder.{edges_are}
use borrow.Author.Rules.{rules}
use Rattle.run_rules.proofs.files.one.edges_rules.Goals as goal

pub returns : goal.returns
returns c = search (rules, edges_are)
