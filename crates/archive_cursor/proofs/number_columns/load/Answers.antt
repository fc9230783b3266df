use Rattle.archive_cursor.proofs.Answers.{in-range, not_there, not-loaded, no-places, not-placed, is-loaded, loaded}
use borrow.Author.Rules.{rules}
use Rattle.archive_cursor.proofs.number_columns.load.Goals as goal

pub fits-requires : goal.fits-requires
fits-requires g c = let h = g.met.T.BigEndian.some_bytes in search rules

pub returns-then-not-fits-clause-value : goal.returns-then-not-fits-clause-value
returns-then-not-fits-clause-value g c = search (rules, not_there)

pub returns-then-not-fits-clause-out_after : goal.returns-then-not-fits-clause-out_after
returns-then-not-fits-clause-out_after g c = search (rules, not-loaded)

pub returns-then-out-n-clause-value : goal.returns-then-out-n-clause-value
returns-then-out-n-clause-value g c = search (rules, no-places)

pub returns-then-out-n-clause-out_after : goal.returns-then-out-n-clause-out_after
returns-then-out-n-clause-out_after g c = search (rules, not-placed)

pub fill-requires : goal.fill-requires
fill-requires g c = (search (rules, in-range), search rules)

pub returns-clause-value : goal.returns-clause-value
returns-clause-value g c = search (rules, is-loaded)

pub returns-clause-out_after : goal.returns-clause-out_after
returns-clause-out_after g c = search (rules, loaded)
