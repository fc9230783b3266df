use Rattle.run_compact.proofs.RecordTurns.{flags-put, one-flag}
use borrow.Author.Rules.{rules}
use Rattle.run_compact.proofs.following.put_flags.Goals as goal

pub loop-i-preserved : goal.loop-i-preserved
loop-i-preserved c = search (rules, one-flag)

pub returns : goal.returns
returns c = (search flags-put, search rules)
