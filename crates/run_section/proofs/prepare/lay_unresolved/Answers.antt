-- Each column is as long as its count.
use Rattle.run_section.proofs.covers.Ranging.{front-in}
use borrow.Author.Rules.{rules}
use Rattle.run_section.proofs.prepare.lay_unresolved.Goals as goal

pub unresolved_table-requires : goal.unresolved_table-requires
unresolved_table-requires c = (search rules, search (rules, front-in), search (rules, front-in), search (rules, front-in))
