use Rattle.cover.specs.Cover.{wrapping_less}
use borrow.Author.Rules.{rules}
use Rattle.run_records.proofs.strided.wrapping_less.Goals as goal

pub returns : goal.returns
unfolding wrapping_less
returns c = search rules
