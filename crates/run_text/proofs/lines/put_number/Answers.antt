use Rattle.run_text.proofs.lines.Lines.{spaced-written}
use borrow.Author.Rules.{rules}
use Rattle.run_text.proofs.lines.put_number.Goals as goal

pub returns : goal.returns
returns c = search (rules, spaced-written)
