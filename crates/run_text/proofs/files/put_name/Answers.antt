use Rattle.run_text.proofs.files.Texts.{name-written}
use borrow.Author.Rules.{rules}
use Rattle.run_text.proofs.files.put_name.Goals as goal

pub returns : goal.returns
returns c = search (rules, name-written)
