-- By the parent's case; an erased parent's slot is among those built, or it has no list.
use borrow.Author.Rules.{rules}
use Rattle.run_renumber.proofs.Parents.{slot-fits, place-fits, ordered, within, exact-before, exact-renamed, grew_none, exact-merged}
use Rattle.run_renumber.proofs.add_parent.Goals as goal

pub returns-then-p-start : goal.returns-then-p-start
returns-then-p-start c = search exact-before

pub returns-then-flag_at-eq0 : goal.returns-then-flag_at-eq0
returns-then-flag_at-eq0 c = search exact-renamed

pub overflow_mul-t : goal.overflow_mul-t
overflow_mul-t c = search slot-fits

pub overflow_add-t : goal.overflow_add-t
overflow_add-t c = search (rules, place-fits)

pub returns-then-s-t : goal.returns-then-s-t
returns-then-s-t c = search grew_none

pub merge-requires : goal.merge-requires
merge-requires c = (search ordered, (search within, search rules))

pub returns : goal.returns
returns c = search exact-merged
