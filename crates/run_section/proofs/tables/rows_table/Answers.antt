use Rattle.run_section.proofs.Laying.{rows_laid}
use borrow.Author.Rules.{rules}
use Rattle.run_section.proofs.tables.rows_table.Goals as goal

pub returns : goal.returns
returns c = search (rules, rows_laid)
