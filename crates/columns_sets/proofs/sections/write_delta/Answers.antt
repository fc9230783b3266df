use Prim.Native.Nat.{◌<◌}
use lib.ListN.{length}
use Rattle.columns_sets.proofs.sections.ListWrites.{passed, passed-next, one-next, one-room, one-fits, one_written}
use borrow.Author.Rules.{rules}
use Rattle.columns_sets.proofs.sections.write_delta.Goals as goal

pub returns-then-not-is_between-clause-out_after : goal.returns-then-not-is_between-clause-out_after
returns-then-not-is_between-clause-out_after c = search (rules, passed)

pub returns-then-not-is_between-clause-value : goal.returns-then-not-is_between-clause-value
returns-then-not-is_between-clause-value c = search (rules, passed-next)

pub delta-requires : goal.delta-requires
delta-requires c = search one-fits

pub offset_bounds-out-at : goal.offset_bounds-out-at
offset_bounds-out-at c = let a = c.args in
    let h : a.at < length a.out.now = search one-room in
    search rules

pub bounds-out-at : goal.bounds-out-at
bounds-out-at c = search one-room

pub overflow_add-result : goal.overflow_add-result
overflow_add-result c = let a = c.args in
    let h : a.at < length a.out.now = search one-room in
    search rules

pub returns-clause-out_after : goal.returns-clause-out_after
returns-clause-out_after c = search one_written

pub returns-clause-value : goal.returns-clause-value
returns-clause-value c = search one-next
