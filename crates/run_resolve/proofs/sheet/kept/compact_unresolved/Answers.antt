-- Every column keeps as many.
use Rattle.run_resolve.proofs.sheet.KeptColumns.{column-kept}
use borrow.Author.Rules.{rules}
use Rattle.run_resolve.proofs.sheet.kept.compact_unresolved.Goals as goal

pub returns-clause-unresolved_kept : goal.returns-clause-unresolved_kept
returns-clause-unresolved_kept c = record { count = search rules; children = search column-kept; kinds = search column-kept; handles = search column-kept }
