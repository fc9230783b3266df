use Rattle.run_records.proofs.Halves.{middle-room, last-room, back-wrote}
use borrow.Author.Rules.{rules}
use Rattle.run_records.proofs.files.put_back.Goals as goal

pub put_middle-p-requires-clause-roots_in_bounds : goal.put_middle-p-requires-clause-roots_in_bounds
put_middle-p-requires-clause-roots_in_bounds c = search (rules, middle-room)

pub put_last-requires-clause-links_in_bounds : goal.put_last-requires-clause-links_in_bounds
put_last-requires-clause-links_in_bounds c = search (rules, last-room)

pub returns : goal.returns
returns c = search (rules, back-wrote)
