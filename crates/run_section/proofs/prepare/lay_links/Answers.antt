-- Each column is as long as its count.
use Rattle.run_section.proofs.covers.Ranging.{front-in}
use borrow.Author.Rules.{rules}
use Rattle.run_section.proofs.prepare.lay_links.Goals as goal

pub links_table-requires : goal.links_table-requires
links_table-requires c = (search rules, search (rules, front-in), search (rules, front-in), search (rules, front-in), search (rules, front-in), search (rules, front-in))
