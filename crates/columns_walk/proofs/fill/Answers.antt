use Prim.Native.Nat.{ℕ}
use lib.ListN.{replicate, length-replicate}
use native.Mathlib.Omega.{arith}
use Rattle.arrays.proofs.table.Chains.{none-zeros}
use Rattle.columns_walk.proofs.Starting.{one_key, seen_first, ran-levels}
use borrow.Author.Rules.{rules}
use mathlib.Core.Path.{refl}
use Rattle.columns_walk.proofs.fill.Goals as goal

pub add-n-requires : goal.add-n-requires
add-n-requires c = none-zeros 4097 2053 (omega arith)

pub run-requires-clause-have_bound : goal.run-requires-clause-have_bound
run-requires-clause-have_bound c =
    one_key _ _ 4097 (replicate 4097 0) _ _ _ c.add-n.ensures.table c.add-n.ensures.keys_after (length-replicate {A = ℕ} 4097 0) (omega arith)

pub run-requires-clause-keys_in_bounds : goal.run-requires-clause-keys_in_bounds
run-requires-clause-keys_in_bounds c = (search rules, (search rules, search rules))

pub run-requires-clause-table : goal.run-requires-clause-table
run-requires-clause-table c = c.add-n.ensures.table

pub run-requires-clause-seen : goal.run-requires-clause-seen
run-requires-clause-seen c = seen_first _ _ _ 4097 4097 _ c.args.buf.now (replicate 4097 0) _ c.add-n.ensures.keys_after c.requires.buf_value
    (length-replicate {A = ℕ} 4097 0) (search rules) refl c.requires.buf_length.1.1

pub returns : goal.returns
returns c = search ran-levels
