use mathlib.Core.Path.{refl}
use Rattle.columns.proofs.Offsets.{inside}
use Rattle.columns.proofs.Sections.{list-begins, list_done, list-next, list-room, list_on}
use Rattle.columns_sets.proofs.sections.ListWrites.{reach-begins, reach-this, reach-on}
use borrow.Author.Rules.{rules}
use Rattle.columns_sets.proofs.sections.write_list.Goals as goal

pub loop-j-init : goal.loop-j-init
loop-j-init c = (search (rules, inside), search reach-begins, search (list-begins (λ ds. ds) refl (λ xs ys. refl)))

pub write_delta-p-requires-clause-t_value : goal.write_delta-p-requires-clause-t_value
write_delta-p-requires-clause-t_value c = search reach-this

pub write_delta-p-requires-clause-t_in_bounds : goal.write_delta-p-requires-clause-t_in_bounds
write_delta-p-requires-clause-t_in_bounds c = search (list-room (λ ds. ds) refl (λ xs ys. refl))

pub loop-j-preserved : goal.loop-j-preserved
loop-j-preserved c = (search rules, search reach-on, search (list_on (λ ds. ds) refl (λ xs ys. refl)))

pub returns-clause-out_after : goal.returns-clause-out_after
returns-clause-out_after c = search (list_done (λ ds. ds) refl (λ xs ys. refl))

pub returns-clause-value : goal.returns-clause-value
returns-clause-value c = search (list-next (λ ds. ds) refl (λ xs ys. refl))
