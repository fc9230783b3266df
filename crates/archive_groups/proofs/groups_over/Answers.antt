use Rattle.archive_read.proofs.AtFiles.{file-fits}
use Rattle.archive_groups.proofs.Marked.{run-over, starts, no-file, next, none_over, over-now, one-file-more, less-left}
use borrow.Author.Rules.{rules}
use Rattle.archive_groups.proofs.groups_over.Goals as goal

pub returns-then-k-gt16 : goal.returns-then-k-gt16
returns-then-k-gt16 c = search (rules, run-over)

pub loop-p-init : goal.loop-p-init
loop-p-init c = (search rules, search rules, search rules, search rules, search starts)

pub returns-in_default : goal.returns-in_default
returns-in_default c = search (rules, no-file)

pub loop-p-smaller : goal.loop-p-smaller
loop-p-smaller c = search less-left

pub loop-p-preserved : goal.loop-p-preserved
loop-p-preserved c = (search file-fits, search (rules, one-file-more), search rules, search rules, search (rules, next))

pub returns : goal.returns
returns c = search (rules, none_over)

pub returns-then-k-n-gt16 : goal.returns-then-k-n-gt16
returns-then-k-n-gt16 c =
    let i = c.loop-p.invariant in
    over-now _ _ _ _ _ _ i.2 i.3 i.4 _ _ c.loop-p-test.true i.1 c.file_at.ensures.result_value c.in-Some.is c.with_group-n.ensures.list_after c.group_of.ensures
    c.with_group-n.ensures.upper_bound.0 c.with_group-n.ensures.upper_bound.1 c.if-k-n-gt16.true
