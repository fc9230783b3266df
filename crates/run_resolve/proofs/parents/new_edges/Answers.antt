-- Its columns are renewed in place.
use Rattle.run_resolve.proofs.parents.KeptLists.{renewal-upto, renewal-full}
use Rattle.run_resolve.proofs.parents.new_edges.Goals as goal

pub returns : goal.returns
returns c = search (renewal-upto, c.in_ok-m.was)

pub returns-in_err-m : goal.returns-in_err-m
returns-in_err-m c = rw c.from_residual.ensures (renewal-full _ _ _ _ _ c.renew.ensures c.in_err-m.was)
