use Rattle.run_clean.proofs.Zeros.{may-store, no_rows, zero-roots, roots_few, roots-fewer, roots-here, roots_kept}
use borrow.Author.Rules.{rules}
use Rattle.run_clean.proofs.parts.fill_roots.Goals as goal

pub grow_roots-n-requires : goal.grow_roots-n-requires
grow_roots-n-requires c = (search may-store, (search zero-roots, search no_rows))

pub renew_roots-requires-clause-count_bound : goal.renew_roots-requires-clause-count_bound
renew_roots-requires-clause-count_bound c = (search roots_few, (search rules, search rules))

pub renew_roots-requires-clause-rows_value : goal.renew_roots-requires-clause-rows_value
renew_roots-requires-clause-rows_value c = search roots-here

pub returns-clause-result_after : goal.returns-clause-result_after
returns-clause-result_after c = search roots_kept

pub returns-clause-upper_bound : goal.returns-clause-upper_bound
returns-clause-upper_bound c = search roots-fewer
