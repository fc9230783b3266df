use Rattle.std.proofs.Common.{rules}
use Rattle.archive_store.proofs.sections.Slots.{all-counted, one-counted, one-passed}
use Rattle.archive_store.proofs.sections.count_between.Goals as goal
use Rattle.archive_store.proofs.sections.count_between.Goals.{then-is_between, else-is_between}

pub loop-j-preserved : goal.loop-j-preserved
loop-j-preserved c = elim c.if-is_between.branch [ then-is_between w ↦ search (rules, one-counted) | else-is_between w ↦ search (rules, one-passed) ]

pub returns : goal.returns
returns c = search (rules, all-counted)
