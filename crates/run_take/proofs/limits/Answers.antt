use Rattle.run_take.proofs.Rulings.{is_read_lem, limits-known}
use Rattle.run_take.proofs.limits.Goals as goal

pub groups_over-many-requires : goal.groups_over-many-requires
groups_over-many-requires c = search is_read_lem

pub returns : goal.returns
returns c = search limits-known
