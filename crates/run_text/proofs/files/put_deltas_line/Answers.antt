use Rattle.run_text.proofs.files.Texts.{deltas-written}
use borrow.Author.Rules.{rules}
use Rattle.run_text.proofs.files.put_deltas_line.Goals as goal

pub returns : goal.returns
returns c = search (rules, deltas-written)
