use mathlib.Core.Path.{sym}
use Rattle.run_clean.proofs.Zeros.{may-store, zero-links, links_few, links-level, links-sorted, long-groups, long-chains, long-seqs, long-to-chains, long-to-seqs}
use borrow.Author.Rules.{rules}
use Rattle.run_clean.proofs.parts.fill_links.Goals as goal

pub grow_links-n-requires : goal.grow_links-n-requires
grow_links-n-requires c = (search may-store, search zero-links)

pub slice_bounds-sort_into-end : goal.slice_bounds-sort_into-end
slice_bounds-sort_into-end c = sym (long-groups _ _ _ _ _ _ c.grow_links-n.ensures c.requires.long_links)

pub slice_bounds-sort_into-end-2 : goal.slice_bounds-sort_into-end-2
slice_bounds-sort_into-end-2 c = sym (long-chains _ _ _ _ _ _ c.grow_links-n.ensures c.requires.long_links)

pub slice_bounds-sort_into-end-3 : goal.slice_bounds-sort_into-end-3
slice_bounds-sort_into-end-3 c = sym (long-seqs _ _ _ _ _ _ c.grow_links-n.ensures
    c.requires.long_links)

pub slice_bounds-sort_into-end-4 : goal.slice_bounds-sort_into-end-4
slice_bounds-sort_into-end-4 c = sym (long-to-chains _ _ _ _ _ _ c.grow_links-n.ensures
    c.requires.long_links)

pub slice_bounds-sort_into-end-5 : goal.slice_bounds-sort_into-end-5
slice_bounds-sort_into-end-5 c = sym (long-to-seqs _ _ _ _ _ _ c.grow_links-n.ensures
    c.requires.long_links)

pub sort_into-requires-clause-n_bound : goal.sort_into-requires-clause-n_bound
sort_into-requires-clause-n_bound c = (search links_few, (search rules, search links-level))

pub sort_into-requires-clause-groups_len : goal.sort_into-requires-clause-groups_len
sort_into-requires-clause-groups_len c = search long-groups

pub sort_into-requires-clause-a_len : goal.sort_into-requires-clause-a_len
sort_into-requires-clause-a_len c = (search long-chains, (search long-seqs, (search long-to-chains, search long-to-seqs)))

pub returns : goal.returns
returns c = (search rules, search links-sorted)
