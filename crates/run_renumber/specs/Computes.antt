-- One name that opens every definition of this crate and of those below it, for whoever computes with them: `unfolding computes`.
use Rattle.run_renumber.specs.Numbers
use Rattle.run_renumber.specs.NewLists
use Rattle.run_renumber.specs.Reparented
use Rattle.columns.specs.Computes

unfoldable pub computes : Unit {0}
unfolding Computes.computes Numbers.takes Numbers.numbers_from Numbers.survivors NewLists.add_parent NewLists.new_list NewLists.new_lists_from NewLists.new_lists Reparented.is_erased Reparented.is_reparented Reparented.reparented
computes = tt
