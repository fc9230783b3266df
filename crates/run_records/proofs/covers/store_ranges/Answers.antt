use Rattle.run_records.proofs.Covered.{counted-ranges}
use borrow.Author.Rules.{rules}
use Rattle.run_records.proofs.covers.store_ranges.Goals as goal

pub returns : goal.returns
returns c = search (rules, counted-ranges)
