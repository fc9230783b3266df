use native.Mathlib.Omega.{arith}
use Rattle.arrays.proofs.table.Chains.{none-at}
use borrow.Author.Rules.{rules}
use Rattle.columns_levels.proofs.rounds.reached.Goals as goal

pub reach-requires-clause-table : goal.reach-requires-clause-table
reach-requires-clause-table c = none-at _ 4097 2053 (search rules) (omega arith)
