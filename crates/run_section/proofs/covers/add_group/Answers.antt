-- The rows from the group's place up to the next one's are its rows.
use Rattle.run_section.proofs.covers.Adding.{none-added, added-room, added-there, added-labelled, group_added}
use borrow.Author.Rules.{rules}
use Rattle.run_section.proofs.covers.add_group.Goals as goal

pub returns-then-groups-g-eq0 : goal.returns-then-groups-g-eq0
returns-then-groups-g-eq0 c = search (rules, none-added)

pub add_ranges-requires-clause-n_bound : goal.add_ranges-requires-clause-n_bound
add_ranges-requires-clause-n_bound c = (search (rules, added-room), search (rules, added-there))

pub add_ranges-requires-clause-labelled : goal.add_ranges-requires-clause-labelled
add_ranges-requires-clause-labelled c = search (rules, added-labelled)

pub returns : goal.returns
returns c = search (rules, group_added)
