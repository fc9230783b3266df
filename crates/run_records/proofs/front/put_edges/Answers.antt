use Rattle.run_records.proofs.SetsStored.{built-room, edges-record, edges-after}
use borrow.Author.Rules.{rules}
use Rattle.run_records.proofs.front.put_edges.Goals as goal

pub put_sets-requires-clause-kids_in_bounds : goal.put_sets-requires-clause-kids_in_bounds
put_sets-requires-clause-kids_in_bounds c = search (rules, built-room)

pub returns-clause-out_after : goal.returns-clause-out_after
returns-clause-out_after c = search (rules, edges-record)

pub returns-clause-value : goal.returns-clause-value
returns-clause-value c = search (rules, edges-after)
