use Rattle.run_section.proofs.Laying.{links_laid}
use borrow.Author.Rules.{rules}
use Rattle.run_section.proofs.tables.links_table.Goals as goal

pub returns : goal.returns
returns c = search (rules, links_laid)
