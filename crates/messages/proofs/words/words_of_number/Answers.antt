use mathlib.Core.Path.{refl}
use Rattle.std.proofs.Common.{rules}
use Rattle.lists.specs.Lists.{joined}
use Rattle.lists.specs.Text.{text}
use Rattle.messages.specs.words.Words.{words_of, table}
use Rattle.messages.proofs.words.Placed.{untold, is_number, by_number}
use Rattle.messages.proofs.words.words_of_number.Goals as goal

pub returns-then-number-gt43 : goal.returns-then-number-gt43
returns-then-number-gt43 c = search (rules, untold)

pub put_some-requires : goal.put_some-requires
unfolding joined table words_of text
put_some-requires c = (refl, (search (rules, is_number), search rules))

pub returns : goal.returns
returns c = search (rules, by_number)
