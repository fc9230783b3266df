use Rattle.run_rules.proofs.files.FileTurns.{name-count, seen-rules}
use borrow.Author.Rules.{rules}
use Rattle.run_rules.proofs.files.all.next_rules.Goals as goal

pub slice_bounds-file_rules-end : goal.slice_bounds-file_rules-end
slice_bounds-file_rules-end c = search (rules, name-count)

pub returns : goal.returns
returns c = search seen-rules
