use native.Mathlib.Nat.{sub-zero}
use Rattle.archive_read.proofs.bodies.AtTables.{flags-done, flag-bad, flag-good}
use borrow.Author.Rules.{rules}
use Rattle.archive_read.proofs.bodies.flags_ok.Goals as goal

pub loop-i-init : goal.loop-i-init
loop-i-init c = (search rules, rw sub-zero)

pub returns-then-b-i-gt1 : goal.returns-then-b-i-gt1
returns-then-b-i-gt1 c = search (rules, flag-bad)

pub loop-i-preserved : goal.loop-i-preserved
loop-i-preserved c = (search rules, search (rules, flag-good))

pub returns : goal.returns
returns c = search (rules, flags-done)
