use Rattle.run_store.proofs.grow.Turns.{room-starts, room-here, room_next, sums-start, fitting-starts, sum-short, sum_fits, fitting-next, one-summed, all-summed}
use borrow.Author.Rules.{rules}
use Rattle.run_store.proofs.grow.put_sums.Goals as goal

pub loop-i-init : goal.loop-i-init
loop-i-init c = (search rules, search room-starts, search fitting-starts, search sums-start)

pub load_u32-sum-requires : goal.load_u32-sum-requires
load_u32-sum-requires c = search room-here

pub overflow_add-sum : goal.overflow_add-sum
overflow_add-sum c = search sum_fits

pub overflow_cast-out : goal.overflow_cast-out
overflow_cast-out c = search sum-short

pub overflow_add-p : goal.overflow_add-p
overflow_add-p c = let h = room-here _ _ _ _ _ c.loop-i-test.true c.loop-i.invariant.1 in search rules

pub loop-i-preserved : goal.loop-i-preserved
loop-i-preserved c = (search rules, search room_next, search fitting-next, search one-summed)

pub returns : goal.returns
returns c = search all-summed
