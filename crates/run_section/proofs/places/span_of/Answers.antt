-- Two places of one column.
use Rattle.run_section.proofs.Placing.{span-at}
use borrow.Author.Rules.{rules}
use Rattle.run_section.proofs.places.span_of.Goals as goal

pub returns : goal.returns
returns c = search (rules, span-at)
