use Rattle.run_text.proofs.files.Texts.{set-written}
use borrow.Author.Rules.{rules}
use Rattle.run_text.proofs.files.put_set.Goals as goal

pub returns : goal.returns
returns c = search (rules, set-written)
