use Rattle.cover_read.proofs.chosen.Choosing.{tail-level, tail-place, tail_within}
use borrow.Author.Rules.{rules}
use Rattle.cover_read.proofs.chosen.first_from.Goals as goal

pub place_in_narrow-requires : goal.place_in_narrow-requires
place_in_narrow-requires c = search tail-level

pub returns : goal.returns
returns c = (search rules, (search tail_within, search tail-place))
