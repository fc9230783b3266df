-- By the flag, and by the part of the targets that holds the event's lists of all kinds.
use borrow.Author.Rules.{rules}
use Rattle.run_renumber.proofs.Erased.{not-erased, event-ordered, event-within, event-named}
use Rattle.run_renumber.proofs.is_reparented.Goals as goal

pub returns-then-flags-i-ne0 : goal.returns-then-flags-i-ne0
returns-then-flags-i-ne0 c = search not-erased

pub names_erased-requires : goal.names_erased-requires
names_erased-requires c = (search (rules, event-ordered), search (rules, event-within))

pub returns : goal.returns
returns c = search event-named
