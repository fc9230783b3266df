use Rattle.run_take.proofs.LastGroup.{name-there, name-count, name-short, looked-back}
use borrow.Author.Rules.{rules}
use Rattle.run_take.proofs.known_rules.Goals as goal

pub slice_bounds-name-end : goal.slice_bounds-name-end
slice_bounds-name-end c = search (rules, name-there)

pub slice_bounds-files_rules-end : goal.slice_bounds-files_rules-end
slice_bounds-files_rules-end c = search (rules, name-count)

pub files_rules-requires : goal.files_rules-requires
files_rules-requires c = (search (rules, name-short), search rules)

pub returns : goal.returns
returns c = search looked-back
