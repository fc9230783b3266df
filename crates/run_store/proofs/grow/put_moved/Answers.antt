use Rattle.run_store.proofs.grow.Turns.{room-starts, room-here, room_next, number-inside, put-starts, all-put, moved-put, small-starts, small-fits, small-next}
use borrow.Author.Rules.{rules}
use Rattle.run_store.proofs.grow.put_moved.Goals as goal

pub loop-i-init : goal.loop-i-init
loop-i-init c = (search rules, search room-starts, small-starts _ _ _ c.args.bytes.now c.args.base c.requires.add_bound.1, search put-starts)

pub overflow_add-p : goal.overflow_add-p
overflow_add-p c = let h = room-here _ _ _ _ _ c.loop-i-test.true c.loop-i.invariant.1 in search rules

pub load_u64-requires : goal.load_u64-requires
load_u64-requires c = search number-inside

pub overflow_add-out : goal.overflow_add-out
overflow_add-out c = small-fits _ _ _ _ _ _ c.loop-i-test.true c.loop-i.invariant.2 _ _ c.requires.add_bound.0 c.load_u64.ensures

pub overflow_add-p-in-loop-i : goal.overflow_add-p-in-loop-i
overflow_add-p-in-loop-i c = let h = room-here _ _ _ _ _ c.loop-i-test.true c.loop-i.invariant.1 in search rules

pub loop-i-preserved : goal.loop-i-preserved
loop-i-preserved c = (
  search rules,
  search room_next,
  small-next _ _ _ _ c.args.bytes.now c.loop-i.p
      c.loop-i-test.true c.loop-i.invariant.2,
  moved-put _ _ _ _ c.args.bytes.now c.loop-i.p _ c.loop-i-test.true _ _ c.loop-i.invariant.3 c.load_u64.ensures,
)

pub returns : goal.returns
returns c = search all-put
