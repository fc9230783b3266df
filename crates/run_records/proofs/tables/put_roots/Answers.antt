use Rattle.run_records.proofs.Whole.{roots-record}
use borrow.Author.Rules.{rules}
use Rattle.run_records.proofs.tables.put_roots.Goals as goal

pub returns : goal.returns
returns c = search (rules, roots-record)
