use Rattle.run_clean.proofs.Zeros.{may-store, zero-unresolved, unresolved_few, unresolved-fewer, unresolved-here, unresolved-kept}
use borrow.Author.Rules.{rules}
use Rattle.run_clean.proofs.parts.fill_unresolved.Goals as goal

pub grow_unresolved-n-requires : goal.grow_unresolved-n-requires
grow_unresolved-n-requires c = (search may-store, search zero-unresolved)

pub renew_unresolved-requires-clause-count_bound : goal.renew_unresolved-requires-clause-count_bound
renew_unresolved-requires-clause-count_bound c = (search unresolved_few, (search rules, search rules))

pub renew_unresolved-requires-clause-children_value : goal.renew_unresolved-requires-clause-children_value
renew_unresolved-requires-clause-children_value c = search unresolved-here

pub returns-clause-result_after : goal.returns-clause-result_after
returns-clause-result_after c = search unresolved-kept

pub returns-clause-upper_bound : goal.returns-clause-upper_bound
returns-clause-upper_bound c = search unresolved-fewer
