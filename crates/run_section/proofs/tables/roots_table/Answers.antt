use Rattle.run_section.proofs.Laying.{roots_laid}
use borrow.Author.Rules.{rules}
use Rattle.run_section.proofs.tables.roots_table.Goals as goal

pub returns : goal.returns
returns c = search (rules, roots_laid)
