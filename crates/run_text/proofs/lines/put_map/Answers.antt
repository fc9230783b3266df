use Rattle.run_text.proofs.lines.Lines.{map-written}
use borrow.Author.Rules.{rules}
use Rattle.run_text.proofs.lines.put_map.Goals as goal

pub returns : goal.returns
returns c = search (rules, map-written)
