use Rattle.run_store.proofs.links.LinkTurns.{sums-there, links-none, links-some}
use Rattle.run_store.proofs.turns.Turns.{cover-there}
use borrow.Author.Rules.{rules}
use Rattle.run_store.proofs.links.add_links.Goals as goal

pub returns-then-not-t : goal.returns-then-not-t
returns-then-not-t c = search links-none

pub cover_links-requires-clause-holds_cover : goal.cover_links-requires-clause-holds_cover
cover_links-requires-clause-holds_cover c = (search cover-there, search sums-there)

pub cover_links-requires-clause-links_bound : goal.cover_links-requires-clause-links_bound
cover_links-requires-clause-links_bound c = (search rules, (search rules, search rules))

pub returns : goal.returns
returns c = search links-some
