use Rattle.run_records.proofs.Covered.{links-stored}
use borrow.Author.Rules.{rules}
use Rattle.run_records.proofs.covers.store_links.Goals as goal

pub returns : goal.returns
returns c = search (rules, links-stored)
