use Rattle.archive_read.proofs.references.AtReferences.{one-is, none_is}
use borrow.Author.Rules.{rules}
use Rattle.archive_read.proofs.references.one_if.Goals as goal

pub returns-then-x-kind : goal.returns-then-x-kind
returns-then-x-kind c = (search one-is, search rules)

pub returns : goal.returns
returns c = (search none_is, search rules)
