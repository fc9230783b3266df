-- The new lists of the columns are those of the archive.
use Rattle.run_resolve.proofs.sheet.Asking.{few-held, edges-held, flags-held}
use Rattle.run_resolve.proofs.SurvivorColumns.{numbers-end, lists-renewed}
use Rattle.run_resolve.proofs.new_lists.Goals as goal

pub new_edges-requires-clause-n_bound : goal.new_edges-requires-clause-n_bound
new_edges-requires-clause-n_bound c = (search few-held, (search flags-held, search numbers-end))

pub new_edges-requires-clause-e_value : goal.new_edges-requires-clause-e_value
new_edges-requires-clause-e_value c = search edges-held

pub returns : goal.returns
returns c = search lists-renewed
