use Rattle.run_section.proofs.Tested.{faults-told}
use borrow.Author.Rules.{rules}
use Rattle.run_section.proofs.rules.section_rules.Goals as goal

pub returns : goal.returns
returns c = search (rules, faults-told)
