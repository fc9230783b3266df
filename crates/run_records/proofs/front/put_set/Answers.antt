use Rattle.columns.proofs.Offsets.{form-climbs}
use Rattle.run_records.proofs.SetsStored.{lists-there, set_room, set_after}
use borrow.Author.Rules.{rules}
use Rattle.run_records.proofs.front.put_set.Goals as goal

pub store_lists-requires-clause-offsets_value : goal.store_lists-requires-clause-offsets_value
store_lists-requires-clause-offsets_value c = (search (rules, form-climbs), search (rules, lists-there))

pub store_lists-requires-clause-targets_in_bounds : goal.store_lists-requires-clause-targets_in_bounds
store_lists-requires-clause-targets_in_bounds c = search (rules, set_room)

pub returns-clause-value : goal.returns-clause-value
returns-clause-value c = search (rules, set_after)
