use Rattle.run_section.proofs.prepare.Preparing.{rows_fit, unresolved-fit, roots-fit, links-fit, tables-ready}
use borrow.Author.Rules.{rules}
use Rattle.run_section.proofs.prepare.lay_tables.Goals as goal

pub lay_rows-requires : goal.lay_rows-requires
lay_rows-requires c = search (rules, rows_fit)

pub lay_unresolved-requires : goal.lay_unresolved-requires
lay_unresolved-requires c = search (rules, unresolved-fit)

pub lay_roots-requires : goal.lay_roots-requires
lay_roots-requires c = search (rules, roots-fit)

pub lay_links-requires : goal.lay_links-requires
lay_links-requires c = search (rules, links-fit)

pub returns : goal.returns
returns c = search (rules, tables-ready)
