use native.Mathlib.Omega.{arith}
use Rattle.arrays.proofs.table.Chains.{none-zeros}
use Rattle.columns_levels.proofs.rounds.Closed.{shared-found}
use Rattle.columns_levels.proofs.rounds.shared.Goals as goal

pub reach-n-requires-clause-table : goal.reach-n-requires-clause-table
reach-n-requires-clause-table c = none-zeros 4097 2053 (omega arith)

pub returns : goal.returns
returns c = search shared-found
