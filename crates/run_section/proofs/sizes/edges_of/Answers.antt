use Rattle.run_section.proofs.Counting.{edges-counted}
use borrow.Author.Rules.{rules}
use Rattle.run_section.proofs.sizes.edges_of.Goals as goal

pub returns : goal.returns
returns c = search (rules, edges-counted)
