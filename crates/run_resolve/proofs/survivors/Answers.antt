-- What the columns of the survivors stand for.
use Rattle.run_resolve.proofs.SurvivorColumns.{sheet-ok, flags-room, flags-count, count-flags, survivors_in}
use borrow.Author.Rules.{rules}
use Rattle.run_resolve.proofs.survivors.Goals as goal

pub slice_bounds-f-end : goal.slice_bounds-f-end
slice_bounds-f-end c = search flags-room

pub slice_bounds-kept_sheet-end : goal.slice_bounds-kept_sheet-end
slice_bounds-kept_sheet-end c = search (rules, count-flags)

pub kept_sheet-s-requires : goal.kept_sheet-s-requires
kept_sheet-s-requires c = (search sheet-ok, (search rules, search flags-count))

pub returns : goal.returns
returns c = search survivors_in
