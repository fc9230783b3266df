use Rattle.archive_bytes.proofs.Cells.{four}
use borrow.Author.Rules.{rules}
use Rattle.archive_bytes.proofs.load_u32.Goals as goal

pub returns : goal.returns
returns c = search (rules, four)
