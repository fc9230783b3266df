use Rattle.run_state.proofs.order.Turns.{groups-fall, groups-rest}
use borrow.Author.Rules.{rules}
use Rattle.run_state.proofs.order.groups_ordered.Goals as goal

pub returns-then-groups_level : goal.returns-then-groups_level
returns-then-groups_level c = search (rules, groups-rest)

pub returns-else-groups_level : goal.returns-else-groups_level
returns-else-groups_level c = search (rules, groups-fall)
