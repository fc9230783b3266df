use Rattle.run_records.proofs.Halves.{head-room, edges_room, front-wrote}
use borrow.Author.Rules.{rules}
use Rattle.run_records.proofs.files.put_front.Goals as goal

pub put_head-p-requires-clause-subject_in_bounds : goal.put_head-p-requires-clause-subject_in_bounds
put_head-p-requires-clause-subject_in_bounds c = (search (rules, head-room), search rules)

pub put_edges-requires-clause-inbound_in_bounds : goal.put_edges-requires-clause-inbound_in_bounds
put_edges-requires-clause-inbound_in_bounds c = search (rules, edges_room)

pub returns : goal.returns
returns c = search (rules, front-wrote)
