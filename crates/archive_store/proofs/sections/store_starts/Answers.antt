use Rattle.std.proofs.Common.{◌+◌, ◌≤◌, length, rules}
use Rattle.lists.proofs.Storing.{storing-begins}
use Rattle.archive_store.proofs.sections.Starts.{start-room, start-on, last-room, last_on, all-summed, one-summed, sum-small}
use Rattle.archive_store.proofs.sections.store_starts.Goals as goal

pub loop-q-init : goal.loop-q-init
loop-q-init c = (search rules, search rules, search storing-begins)

pub store_u64-requires : goal.store_u64-requires
store_u64-requires c = search (rules, start-room)

pub overflow_add-sum : goal.overflow_add-sum
overflow_add-sum c = let h : c.loop-q.sum + c.count_list-sum.result ≤ length c.args.targets.now = search sum-small in
    search rules

pub overflow_add-p : goal.overflow_add-p
overflow_add-p c = let h : c.loop-q.p + 8 ≤ length c.loop-q.out = search start-room in
    search rules

pub loop-q-preserved : goal.loop-q-preserved
loop-q-preserved c = (search rules, search one-summed, search start-on)

pub store_u64-requires-2 : goal.store_u64-requires-2
store_u64-requires-2 c = search (rules, last-room)

pub returns-clause-out_after : goal.returns-clause-out_after
returns-clause-out_after c = search last_on

pub returns-clause-value : goal.returns-clause-value
returns-clause-value c = search all-summed
