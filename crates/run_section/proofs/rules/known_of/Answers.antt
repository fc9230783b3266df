use Rattle.run_state.specs.View.{facts_at}
use Rattle.run_section.specs.Rules.{depth_in}
use borrow.Author.Rules.{rules}
use Rattle.run_section.proofs.rules.known_of.Goals as goal

pub returns : goal.returns
unfolding depth_in facts_at
returns c = search rules
