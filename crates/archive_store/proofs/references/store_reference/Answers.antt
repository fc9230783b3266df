use Rattle.archive_store.proofs.Chained.{reference-stored}
use Rattle.std.proofs.Common.{rules}
use Rattle.archive_store.proofs.references.store_reference.Goals as goal

pub returns : goal.returns
returns c = search (rules, reference-stored)
