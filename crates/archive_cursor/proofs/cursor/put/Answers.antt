use Rattle.archive_cursor.proofs.Answers.{one-there, one-past, no_room_lem, unwritten, has_room, written}
use borrow.Author.Rules.{rules}
use Rattle.archive_cursor.proofs.cursor.put.Goals as goal

pub fits-requires : goal.fits-requires
fits-requires g c = let h = g.met.T.BigEndian.some_bytes in search rules

pub store-requires : goal.store-requires
store-requires g c = search (rules, one-there)

pub returns-then-not-fits-clause-value : goal.returns-then-not-fits-clause-value
returns-then-not-fits-clause-value g c = search (rules, no_room_lem, one-past)

pub returns-then-not-fits-clause-out_after : goal.returns-then-not-fits-clause-out_after
returns-then-not-fits-clause-out_after g c = search (rules, unwritten, one-past)

pub returns-clause-value : goal.returns-clause-value
returns-clause-value g c = search (rules, has_room, one-there)

pub returns-clause-out_after : goal.returns-clause-out_after
returns-clause-out_after g c = search (rules, written, one-there)
