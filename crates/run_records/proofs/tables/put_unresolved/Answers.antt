use Rattle.run_records.proofs.Whole.{unresolved-record}
use borrow.Author.Rules.{rules}
use Rattle.run_records.proofs.tables.put_unresolved.Goals as goal

pub returns : goal.returns
returns c = search (rules, unresolved-record)
