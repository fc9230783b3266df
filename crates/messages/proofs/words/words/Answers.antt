use Rattle.std.proofs.Common.{rules}
use Rattle.messages.proofs.words.Placed.{told}
use Rattle.messages.proofs.words.words.Goals as goal

pub returns : goal.returns
returns c = search (rules, told)
