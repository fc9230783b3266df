use Rattle.run_text.proofs.files.Texts.{offsets-written}
use borrow.Author.Rules.{rules}
use Rattle.run_text.proofs.files.put_offsets_line.Goals as goal

pub returns : goal.returns
returns c = search (rules, offsets-written)
