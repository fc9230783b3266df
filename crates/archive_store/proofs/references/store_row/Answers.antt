use Rattle.archive_store.proofs.references.Rows.{row-stored}
use Rattle.std.proofs.Common.{rules}
use Rattle.archive_store.proofs.references.store_row.Goals as goal

pub returns-clause-out_after : goal.returns-clause-out_after
returns-clause-out_after c = search (rules, row-stored)
