use Rattle.archive_bytes.proofs.Cells.{eight}
use borrow.Author.Rules.{rules}
use Rattle.archive_bytes.proofs.load_u64.Goals as goal

pub returns : goal.returns
returns c = search (rules, eight)
