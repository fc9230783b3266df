use Rattle.run_section.proofs.Measuring.{size-of-edges}
use borrow.Author.Rules.{rules}
use Rattle.run_section.proofs.measures.file_length.Goals as goal

pub returns-clause-value : goal.returns-clause-value
returns-clause-value c = search (rules, size-of-edges)
