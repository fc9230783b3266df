-- Both columns keep as many.
use Rattle.run_resolve.proofs.sheet.KeptColumns.{column-kept}
use borrow.Author.Rules.{rules}
use Rattle.run_resolve.proofs.sheet.kept.compact_roots.Goals as goal

pub returns-clause-roots_kept : goal.returns-clause-roots_kept
returns-clause-roots_kept c = record { count = search rules; rows = search column-kept; handles = search column-kept }
