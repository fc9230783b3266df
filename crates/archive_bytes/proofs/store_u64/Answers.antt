use Rattle.archive_bytes.proofs.Cells.{store8}
use borrow.Author.Rules.{rules}
use Rattle.archive_bytes.proofs.store_u64.Goals as goal

pub returns : goal.returns
returns c = search (rules, store8)
