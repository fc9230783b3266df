use Rattle.run_records.proofs.SetsStored.{edges-started}
use borrow.Author.Rules.{rules}
use Rattle.run_records.proofs.front.start_edges.Goals as goal

pub returns : goal.returns
returns c = search (rules, edges-started)
