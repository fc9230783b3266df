use borrow.Author.Rules.{rules}
use Rattle.lists.proofs.Slices.{prefix-count}
use Rattle.cover_copy.proofs.Copied.{copied, front_fits}
use Rattle.cover_copy.proofs.copy_first.Goals as goal

pub slice_bounds-copy_column-end : goal.slice_bounds-copy_column-end
slice_bounds-copy_column-end c = search (rules, prefix-count)

pub copy_column-requires : goal.copy_column-requires
copy_column-requires c = search (rules, front_fits)

pub returns : goal.returns
returns c = search copied
