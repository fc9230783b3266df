use Rattle.run_section.specs.Sizes.{size_at}
use borrow.Author.Rules.{rules}
use Rattle.run_section.proofs.sizes.section_size.Goals as goal

pub returns : goal.returns
unfolding size_at
returns c = search rules
