use Rattle.run_records.proofs.Covered.{cover-stored}
use borrow.Author.Rules.{rules}
use Rattle.run_records.proofs.covers.store_cover.Goals as goal

pub returns : goal.returns
returns c = search (rules, cover-stored)
