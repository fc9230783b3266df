use Rattle.run_records.proofs.Whole.{rows-record}
use borrow.Author.Rules.{rules}
use Rattle.run_records.proofs.tables.put_rows.Goals as goal

pub returns : goal.returns
returns c = search (rules, rows-record)
