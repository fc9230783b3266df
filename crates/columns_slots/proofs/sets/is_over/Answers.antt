use borrow.Author.Tests.{lt-ltb}
use Rattle.columns.proofs.Checks.{over_first, over-second}
use Rattle.columns_slots.proofs.sets.is_over.Goals as goal

pub returns-then-a-gt4096 : goal.returns-then-a-gt4096
returns-then-a-gt4096 c = search (lt-ltb, over_first)

pub returns-else-a-gt4096 : goal.returns-else-a-gt4096
returns-else-a-gt4096 c = search over-second
