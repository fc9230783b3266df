use Rattle.archive_bytes.proofs.number_columns.Turns.{all-copied, one-copied, copy-starts}
use borrow.Author.Rules.{rules}
use Rattle.archive_bytes.proofs.number_columns.store_bytes.Goals as goal

pub loop-i-init : goal.loop-i-init
loop-i-init c = search (rules, copy-starts)

pub loop-i-preserved : goal.loop-i-preserved
loop-i-preserved c = search (rules, one-copied)

pub returns : goal.returns
returns c = search (rules, all-copied)
