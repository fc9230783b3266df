use Rattle.std.proofs.Common.{◌≡◌, drop}
use Rattle.lists.specs.Lists.{all}
use Rattle.columns.specs.EdgeSet.{cut}
use Rattle.archive_write.specs.ByColumns.{once_at_most}
use Rattle.archive_write.proofs.references.is_once.Given as goal

abbrev pub invariant-loop-i : goal.invariant-loop-i
invariant-loop-i l = all (once_at_most l.kind) (cut l.offsets l.kinds) ≡ all (once_at_most l.kind) (drop l.i (cut l.offsets l.kinds))
