use Rattle.run_text.proofs.lines.Lines.{delta-written}
use borrow.Author.Rules.{rules}
use Rattle.run_text.proofs.lines.put_delta.Goals as goal

pub returns : goal.returns
returns c = search (rules, delta-written)
