use Rattle.run_text.proofs.lines.Lines.{head-written}
use borrow.Author.Rules.{rules}
use Rattle.run_text.proofs.lines.put_head.Goals as goal

pub returns : goal.returns
returns c = search (rules, head-written)
