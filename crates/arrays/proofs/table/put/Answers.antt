use Rattle.arrays.proofs.table.Chains.{put_in}
use Rattle.arrays.proofs.table.put.Goals as goal

pub returns-clause-table_2 : goal.returns-clause-table_2
returns-clause-table_2 c = search put_in
