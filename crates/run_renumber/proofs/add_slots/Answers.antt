use borrow.Author.Rules.{rules}
use Rattle.run_renumber.proofs.Slots.{begin-cut, begin-lists, all-built, slots-full, slots-built, slots-more}
use Rattle.run_renumber.proofs.Tables.{form-length}
use Rattle.run_renumber.proofs.add_slots.Goals as goal

pub loop-s-init : goal.loop-s-init
loop-s-init c = (search rules, search rules, search rules, search begin-cut, search begin-lists)

pub add_slot-requires-clause-s_bound : goal.add_slot-requires-clause-s_bound
add_slot-requires-clause-s_bound c = (search rules, (search rules, search form-length))

pub loop-s-preserved : goal.loop-s-preserved
loop-s-preserved c = (search rules, search rules, search rules, search (slots-built, c.in_ok-end.was), search (slots-more, c.in_ok-end.was))

pub returns-in_err-end : goal.returns-in_err-end
returns-in_err-end c = rw c.from_residual.ensures (search (slots-full, c.in_err-end.was))

pub returns : goal.returns
returns c = search all-built
