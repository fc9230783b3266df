-- Each column is as long as its count.
use Rattle.run_section.proofs.covers.Ranging.{front-in}
use borrow.Author.Rules.{rules}
use Rattle.run_section.proofs.prepare.lay_roots.Goals as goal

pub roots_table-requires : goal.roots_table-requires
roots_table-requires c = (search rules, search (rules, front-in), search (rules, front-in))
