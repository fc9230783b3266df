use Rattle.run_text.proofs.lines.Lines.{reparented-written}
use borrow.Author.Rules.{rules}
use Rattle.run_text.proofs.lines.put_reparented.Goals as goal

pub returns : goal.returns
returns c = search (rules, reparented-written)
