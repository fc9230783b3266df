-- Each column is as long as its count.
use Rattle.run_section.proofs.covers.Ranging.{front-in}
use borrow.Author.Rules.{rules}
use Rattle.run_section.proofs.prepare.lay_rows.Goals as goal

pub rows_table-requires : goal.rows_table-requires
rows_table-requires c = (search rules, search (rules, front-in), search (rules, front-in), search (rules, front-in), search (rules, front-in))
