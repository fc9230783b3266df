use Rattle.std.proofs.Common.{◌+◌, ◌≤◌, length, rules}
use Rattle.archive_store.proofs.sections.Slots.{passed, passed-next, eight, room, stored}
use Rattle.archive_store.proofs.sections.store_delta.Goals as goal

pub returns-then-not-is_between-clause-out_after : goal.returns-then-not-is_between-clause-out_after
returns-then-not-is_between-clause-out_after c = search (rules, passed)

pub returns-then-not-is_between-clause-value : goal.returns-then-not-is_between-clause-value
returns-then-not-is_between-clause-value c = search (rules, passed-next)

pub store_u64-requires : goal.store_u64-requires
store_u64-requires c = search (rules, room)

pub overflow_add-result : goal.overflow_add-result
overflow_add-result c = let a = c.args in
    let h : a.at + 8 ≤ length a.out.now = search (rules, room) in
    search rules

pub returns-clause-out_after : goal.returns-clause-out_after
returns-clause-out_after c = search (rules, stored)

pub returns-clause-value : goal.returns-clause-value
returns-clause-value c = search (rules, eight)
