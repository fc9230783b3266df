use Rattle.archive_write.proofs.references.Asked.{kind-unknown, space-unknown, two-parents, roots-decide}
use Rattle.archive_write.proofs.references.columns_ok.Goals as goal

pub returns-then-not-is_up_to : goal.returns-then-not-is_up_to
returns-then-not-is_up_to c = search kind-unknown

pub returns-then-not-is_up_to-2 : goal.returns-then-not-is_up_to-2
returns-then-not-is_up_to-2 c = search space-unknown

pub returns-then-not-is_once : goal.returns-then-not-is_once
returns-then-not-is_once c = search two-parents

pub returns : goal.returns
returns c = search roots-decide
