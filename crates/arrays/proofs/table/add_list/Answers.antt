use Rattle.std.proofs.Common.{rules}
use Rattle.arrays.proofs.table.Chains.{list-in, one_in}
use Rattle.arrays.proofs.table.add_list.Goals as goal

pub loop-i-preserved : goal.loop-i-preserved
loop-i-preserved c = (search rules, search rules, search rules, search rules, search (rules, one_in))

pub returns-clause-keys : goal.returns-clause-keys
returns-clause-keys c = search list-in
