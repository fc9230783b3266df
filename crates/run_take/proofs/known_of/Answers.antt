use mathlib.Core.Path.{refl}
use Rattle.run_take.proofs.Rulings.{sheet-ok}
use Rattle.run_take.proofs.LastGroup.{name-few}
use borrow.Author.Rules.{rules}
use Rattle.run_take.proofs.known_of.Goals as goal

pub look_back-back-requires : goal.look_back-back-requires
look_back-back-requires c = search sheet-ok

pub returns : goal.returns
returns c = record { figures_are = search rules; groups_are = refl; back_is = search rules; short = name-few _ (sheet-ok _ c.requires) }
