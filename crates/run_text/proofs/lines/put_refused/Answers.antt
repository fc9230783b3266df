use Rattle.run_text.proofs.lines.Lines.{refused-written}
use borrow.Author.Rules.{rules}
use Rattle.run_text.proofs.lines.put_refused.Goals as goal

pub returns : goal.returns
returns c = search (rules, refused-written)
