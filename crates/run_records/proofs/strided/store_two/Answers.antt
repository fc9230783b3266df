use Rattle.run_records.proofs.Covered.{two-columns}
use borrow.Author.Rules.{rules}
use Rattle.run_records.proofs.strided.store_two.Goals as goal

pub returns : goal.returns
returns c = search (rules, two-columns)
