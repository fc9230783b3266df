use Rattle.run_section.proofs.Laying.{unresolved_laid}
use borrow.Author.Rules.{rules}
use Rattle.run_section.proofs.tables.unresolved_table.Goals as goal

pub returns : goal.returns
returns c = search (rules, unresolved_laid)
