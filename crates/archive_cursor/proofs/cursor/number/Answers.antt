use Rattle.archive_cursor.proofs.Answers.{one-there, cut, read}
use borrow.Author.Rules.{rules}
use Rattle.archive_cursor.proofs.cursor.number.Goals as goal

pub fits-requires : goal.fits-requires
fits-requires g c = let h = g.met.T.BigEndian.some_bytes in search rules

pub load-requires : goal.load-requires
load-requires g c = search (rules, one-there)

pub returns-then-not-fits : goal.returns-then-not-fits
returns-then-not-fits g c = search (rules, cut)

pub returns : goal.returns
returns g c = search (rules, read)
