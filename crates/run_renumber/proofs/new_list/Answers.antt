use borrow.Author.Rules.{rules}
use Rattle.run_renumber.proofs.Growing.{above-now, room-now, kept-now}
use Rattle.run_renumber.proofs.Parents.{list-begins, list_done, list-more, list_full}
use Rattle.run_renumber.proofs.new_list.Goals as goal

pub loop-i-init : goal.loop-i-init
loop-i-init c = (search rules, search rules, search rules, search rules, search rules, search list-begins)

pub add_parent-requires-clause-base_le_end : goal.add_parent-requires-clause-base_le_end
add_parent-requires-clause-base_le_end c = (search rules, search rules)

pub loop-i-preserved : goal.loop-i-preserved
loop-i-preserved c = let e = c.in_ok-n.was in (search rules, search (above-now, e), search (room-now, e), search rules, search (kept-now, e), search (list-more, e))

pub returns-in_err-n : goal.returns-in_err-n
returns-in_err-n c = rw c.from_residual.ensures (search (list_full, c.in_err-n.was))

pub returns : goal.returns
returns c = search list_done
