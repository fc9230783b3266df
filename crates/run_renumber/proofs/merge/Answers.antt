use borrow.Author.Rules.{rules}
use Rattle.run_renumber.proofs.Growing.{above-now, room-now, kept-now, merge-done, merge-more, merge-full}
use Rattle.run_renumber.proofs.merge.Goals as goal

pub loop-i-preserved : goal.loop-i-preserved
loop-i-preserved c = let e = c.in_ok-n.was in (search rules, search (above-now, e), search (room-now, e), search rules, search (kept-now, e), search (merge-more, e))

pub returns-in_err-n : goal.returns-in_err-n
returns-in_err-n c = rw c.from_residual.ensures (search (merge-full, c.in_err-n.was))

pub returns : goal.returns
returns c = search merge-done
