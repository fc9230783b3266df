use Rattle.std.proofs.Common.{rules}
use Rattle.archive_store.proofs.references.Rows.{between_done, between-on}
use Rattle.archive_store.proofs.references.store_between.Goals as goal

pub loop-i-preserved : goal.loop-i-preserved
loop-i-preserved c = (search rules, search rules, search rules, search rules, search (rules, between-on))

pub returns : goal.returns
returns c = between_done _ _ _ _ _ _ _ c.loop-i.invariant.4 c.loop-i-test.false
