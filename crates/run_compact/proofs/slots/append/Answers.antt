use Rattle.run_compact.proofs.slots.Appending.{all-copied, one-copied}
use borrow.Author.Rules.{rules}
use Rattle.run_compact.proofs.slots.append.Goals as goal

pub loop-i-preserved : goal.loop-i-preserved
loop-i-preserved c = (search rules, search rules, search one-copied)

pub returns : goal.returns
returns c = (search rules, search all-copied)
