use Rattle.run_text.proofs.lines.Lines.{none_written, new-written}
use borrow.Author.Rules.{rules}
use Rattle.run_text.proofs.lines.put_new.Goals as goal

pub returns-then-erased : goal.returns-then-erased
returns-then-erased c = search (rules, none_written)

pub returns : goal.returns
returns c = search (rules, new-written)
