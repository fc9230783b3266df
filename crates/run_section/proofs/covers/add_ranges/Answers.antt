-- The ranges that are stored are those of the rows' labels.
use Rattle.run_section.proofs.covers.Adding.{added}
use borrow.Author.Rules.{rules}
use Rattle.run_section.proofs.covers.add_ranges.Goals as goal

pub returns : goal.returns
returns c = search (rules, added)
