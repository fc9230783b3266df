use Rattle.run_store.proofs.grow.Turns.{room-starts, room-here, room_next, number-inside, put-starts, all-put, number_put}
use borrow.Author.Rules.{rules}
use Rattle.run_store.proofs.grow.put_numbers.Goals as goal

pub loop-i-init : goal.loop-i-init
loop-i-init g c = (search rules, search room-starts, search put-starts)

pub overflow_add-p : goal.overflow_add-p
overflow_add-p g c = let h = room-here _ _ _ _ _ c.loop-i-test.true c.loop-i.invariant.1 in search rules

pub load-requires : goal.load-requires
load-requires g c = search number-inside

pub overflow_add-p-in-loop-i : goal.overflow_add-p-in-loop-i
overflow_add-p-in-loop-i g c = let h = room-here _ _ _ _ _ c.loop-i-test.true c.loop-i.invariant.1 in search rules

pub loop-i-preserved : goal.loop-i-preserved
loop-i-preserved g c = (
  search rules,
  search room_next,
  number_put _ _ _ _ c.args.bytes.now c.loop-i.p _
      c.loop-i-test.true g.T.Number.held g.met.T.Number.behind _ c.loop-i.invariant.2 c.load.ensures,
)

pub returns : goal.returns
returns g c = search all-put
