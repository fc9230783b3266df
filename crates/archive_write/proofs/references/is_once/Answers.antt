use Rattle.columns.proofs.Offsets.{ordered, inside}
use Rattle.archive_write.proofs.references.Turns.{rows-done, row-twice, row-once}
use borrow.Author.Rules.{rules}
use Rattle.archive_write.proofs.references.is_once.Goals as goal

pub slice_bounds-count_kind-count : goal.slice_bounds-count_kind-count
slice_bounds-count_kind-count c = search (rules, ordered)

pub slice_bounds-count_kind-start : goal.slice_bounds-count_kind-start
slice_bounds-count_kind-start c = search (rules, ordered)

pub slice_bounds-count_kind-end : goal.slice_bounds-count_kind-end
slice_bounds-count_kind-end c = search (rules, inside)

pub returns-then-count_kind-gt1 : goal.returns-then-count_kind-gt1
returns-then-count_kind-gt1 c =
    row-twice _ _ _ _ c.loop-i.invariant (search rules) _ _ c.index-from.ensures c.index-to.ensures (search (rules, ordered)) _ c.count_kind.ensures c.if-count_kind-gt1.true

pub loop-i-preserved : goal.loop-i-preserved
loop-i-preserved c =
    row-once _ _ _ _ c.loop-i.invariant (search rules) _ _ c.index-from.ensures c.index-to.ensures (search (rules, ordered)) _ c.count_kind.ensures c.if-count_kind-gt1.false

pub returns : goal.returns
returns c = search (rules, rows-done)
