-- The flags are those of the rows that the records name.
use Rattle.run_resolve.proofs.sheet.KeptColumns.{front-few, front-count, unresolved-named}
use borrow.Author.Rules.{rules}
use Rattle.run_resolve.proofs.sheet.kept.keep_unresolved.Goals as goal

pub slice_bounds-compact_unresolved-end : goal.slice_bounds-compact_unresolved-end
slice_bounds-compact_unresolved-end c = search (rules, front-count)

pub compact_unresolved-requires : goal.compact_unresolved-requires
compact_unresolved-requires c = search front-few

pub returns-clause-unresolved_kept : goal.returns-clause-unresolved_kept
returns-clause-unresolved_kept c = search unresolved-named
