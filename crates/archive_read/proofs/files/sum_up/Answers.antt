use Rattle.archive_read.proofs.AtFiles.{sums-start, sums-done, sums-broken, sums_next, file-past, file-fits, file-counts, still-below}
use borrow.Author.Rules.{rules}
use Rattle.archive_read.proofs.files.sum_up.Goals as goal

pub loop-p-init : goal.loop-p-init
loop-p-init c = ((search rules, search rules, search rules, search rules, search rules, search rules, search rules, search rules, search rules, search rules), search rules, search sums-start)

pub returns-in_default : goal.returns-in_default
returns-in_default c = search sums-broken

pub with_file-t-requires : goal.with_file-t-requires
with_file-t-requires c = let h = file-fits _ _ _ c.file_at.ensures.after_file c.in-Some.is in
    (search rules, (search file-counts, (search file-past, search rules)))

pub loop-p-smaller : goal.loop-p-smaller
loop-p-smaller c = let h = file-fits _ _ _ c.file_at.ensures.after_file c.in-Some.is in
    let g = file-past _ _ _ c.file_at.ensures.after_file c.in-Some.is in
    search rules

pub loop-p-preserved : goal.loop-p-preserved
loop-p-preserved c = (search still-below, search file-fits, search sums_next)

pub returns : goal.returns
returns c = search sums-done
