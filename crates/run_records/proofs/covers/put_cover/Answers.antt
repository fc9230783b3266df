use Rattle.run_records.proofs.Covered.{cover-record}
use borrow.Author.Rules.{rules}
use Rattle.run_records.proofs.covers.put_cover.Goals as goal

pub returns : goal.returns
returns c = search (rules, cover-record)
