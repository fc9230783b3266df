use Rattle.run_resolve.proofs.links.GroupTurns.{left-start, left-done, left_next, level-start, level-named, level-next}
use borrow.Author.Rules.{rules}
use Rattle.run_resolve.proofs.links.sort_into.Goals as goal

pub loop-g-init : goal.loop-g-init
loop-g-init c = (search rules, search rules, search rules, search level-start, left-start _ _ _)

pub end_of-j-requires-clause-i_le_n : goal.end_of-j-requires-clause-i_le_n
end_of-j-requires-clause-i_le_n c = (search rules, search rules)

pub end_of-j-requires-clause-groups_value : goal.end_of-j-requires-clause-groups_value
end_of-j-requires-clause-groups_value c = search level-named

pub loop-g-preserved : goal.loop-g-preserved
loop-g-preserved c = (search rules, search rules, search rules, search level-next, search left_next)

pub returns : goal.returns
returns c = (search rules, search left-done)
