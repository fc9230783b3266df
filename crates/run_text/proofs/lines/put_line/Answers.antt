use Rattle.run_text.proofs.lines.Lines.{line-written}
use borrow.Author.Rules.{rules}
use Rattle.run_text.proofs.lines.put_line.Goals as goal

pub returns : goal.returns
returns c = search (rules, line-written)
