use mathlib.Core.Path.{refl}
use Rattle.lists.specs.Lists.{starts}
use Rattle.lists.specs.Text.{text}
use Rattle.messages.specs.words.Words.{words_of, table}
use Rattle.messages.proofs.words.start.Goals as goal

pub returns : goal.returns
unfolding starts table words_of text
returns c = refl
