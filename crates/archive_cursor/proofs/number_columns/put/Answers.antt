use Rattle.archive_cursor.proofs.Answers.{too_few, none-stored, no_bytes, not-stored, is-stored, stored}
use borrow.Author.Rules.{rules}
use Rattle.archive_cursor.proofs.number_columns.put.Goals as goal

pub fits-requires : goal.fits-requires
fits-requires g c = let h = g.met.T.BigEndian.some_bytes in search rules

pub returns-then-xs-n-clause-value : goal.returns-then-xs-n-clause-value
returns-then-xs-n-clause-value g c = search (rules, too_few)

pub returns-then-xs-n-clause-out_after : goal.returns-then-xs-n-clause-out_after
returns-then-xs-n-clause-out_after g c = search (rules, none-stored)

pub returns-then-not-fits-clause-value : goal.returns-then-not-fits-clause-value
returns-then-not-fits-clause-value g c = search (rules, no_bytes)

pub returns-then-not-fits-clause-out_after : goal.returns-then-not-fits-clause-out_after
returns-then-not-fits-clause-out_after g c = search (rules, not-stored)

pub returns-clause-value : goal.returns-clause-value
returns-clause-value g c = search (rules, is-stored)

pub returns-clause-out_after : goal.returns-clause-out_after
returns-clause-out_after g c = search (rules, stored)
