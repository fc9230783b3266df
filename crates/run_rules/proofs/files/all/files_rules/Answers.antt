use Rattle.columns.proofs.Handed.{handed-on}
use Rattle.archive_read.proofs.AtFiles.{file-fits, file-holds}
use Rattle.run_rules.proofs.files.FileTurns.{rules-start, within-start, first-look, files-done, no-archive, is-small, still-within, files-stop, files-on}
use Rattle.run_rules.proofs.files.FileTurns.{head-holds, fewer-left, count-below, count-on, kept-subject, kept-numbers}
use borrow.Author.Rules.{rules}
use Rattle.run_rules.proofs.files.all.files_rules.Goals as goal

pub loop-p-init : goal.loop-p-init
loop-p-init c = (search rules, search rules, search rules, search within-start, search rules-start)

pub returns-in_default : goal.returns-in_default
returns-in_default c = search (first-look, no-archive)

pub next_rules-requires-clause-holds_file : goal.next_rules-requires-clause-holds_file
next_rules-requires-clause-holds_file c = (search file-holds, search is-small)

pub returns-in_err-next_rules : goal.returns-in_err-next_rules
returns-in_err-next_rules c = handed-on _ c.from_residual.ensures (search (first-look, files-stop, c.in_err-next_rules.was))

pub see_after-s-requires-clause-holds_head : goal.see_after-s-requires-clause-holds_head
see_after-s-requires-clause-holds_head c = search head-holds

pub see_after-s-requires-clause-subject_bound : goal.see_after-s-requires-clause-subject_bound
see_after-s-requires-clause-subject_bound c = (search (kept-subject, c.in_ok-next_rules.was), search (kept-numbers, c.in_ok-next_rules.was))

pub next-k-requires : goal.next-k-requires
next-k-requires c = search count-below

pub loop-p-smaller : goal.loop-p-smaller
loop-p-smaller c = search fewer-left

pub loop-p-preserved : goal.loop-p-preserved
loop-p-preserved c = (search file-fits, search count-on, search rules, search still-within, search (files-on, c.in_ok-next_rules.was))

pub returns : goal.returns
returns c = search (first-look, files-done)
