-- Its columns are sorted into others.
use borrow.Author.Rules.{rules}
use Rattle.run_resolve.proofs.links.sort_groups.Goals as goal

pub sort_into-n-requires-clause-n_bound : goal.sort_into-n-requires-clause-n_bound
sort_into-n-requires-clause-n_bound c = (search rules, (search rules, search rules))

pub sort_into-n-requires-clause-a_len : goal.sort_into-n-requires-clause-a_len
sort_into-n-requires-clause-a_len c = (search rules, (search rules, (search rules, search rules)))
