use native.Mathlib.Omega.{arith}
use Rattle.arrays.proofs.table.Chains.{none-at}
use Rattle.columns_walk.proofs.level.Visited.{found}
use borrow.Author.Rules.{rules}
use Rattle.columns_walk.proofs.level.find.Goals as goal

pub add_list-n-requires-clause-table : goal.add_list-n-requires-clause-table
add_list-n-requires-clause-table c = none-at _ 8192 4099 (search rules) (omega arith)

pub returns : goal.returns
returns c = search found
