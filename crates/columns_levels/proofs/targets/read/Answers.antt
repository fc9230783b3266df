use Rattle.lists.proofs.Slices.{prefix-count}
use Rattle.columns_levels.proofs.targets.Verdicts.{read_count, read-written}
use borrow.Author.Rules.{rules}
use Rattle.columns_levels.proofs.targets.read.Goals as goal

pub slice_bounds-decode_csr-end-2 : goal.slice_bounds-decode_csr-end-2
slice_bounds-decode_csr-end-2 c = search (rules, prefix-count)

pub returns-clause-value : goal.returns-clause-value
returns-clause-value c = search read_count

pub returns-clause-targets_after : goal.returns-clause-targets_after
returns-clause-targets_after c = search read-written
