use Rattle.run_clean.proofs.Zeros.{may-store, no_rows, zero-lists, filled-form, filled-lists}
use borrow.Author.Rules.{rules}
use Rattle.run_clean.proofs.parts.fill_lists.Goals as goal

pub grow_set-m-requires : goal.grow_set-m-requires
grow_set-m-requires c = (search may-store, (search zero-lists, search no_rows))

pub renew-requires-clause-n_bound : goal.renew-requires-clause-n_bound
renew-requires-clause-n_bound c = (search rules, (search rules, search rules))

pub renew-requires-clause-targets_value : goal.renew-requires-clause-targets_value
renew-requires-clause-targets_value c = search filled-form

pub returns : goal.returns
returns c = search filled-lists
