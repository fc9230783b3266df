-- The flags are those of the rows that the records name.
use Rattle.run_resolve.proofs.sheet.KeptColumns.{front-few, front-count, roots-named}
use borrow.Author.Rules.{rules}
use Rattle.run_resolve.proofs.sheet.kept.keep_roots.Goals as goal

pub slice_bounds-compact_roots-end : goal.slice_bounds-compact_roots-end
slice_bounds-compact_roots-end c = search (rules, front-count)

pub compact_roots-requires : goal.compact_roots-requires
compact_roots-requires c = search front-few

pub returns-clause-roots_kept : goal.returns-clause-roots_kept
returns-clause-roots_kept c = search roots-named
