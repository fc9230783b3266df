use Rattle.archive_read.proofs.references.AtReferences.{not_known, two-parents, two-roots, are-known}
use Rattle.archive_read.proofs.references.are_known.Goals as goal

pub returns-then-not-kinds_ok : goal.returns-then-not-kinds_ok
returns-then-not-kinds_ok c = search not_known

pub returns-then-count_kind-gt1 : goal.returns-then-count_kind-gt1
returns-then-count_kind-gt1 c = search two-parents

pub returns-then-count_kind-gt1-2 : goal.returns-then-count_kind-gt1-2
returns-then-count_kind-gt1-2 c = search two-roots

pub returns : goal.returns
returns c = search are-known
