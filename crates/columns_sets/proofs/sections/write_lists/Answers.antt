use mathlib.Core.Path.{refl}
use Rattle.columns.specs.Limits.{kinds}
use Rattle.lists.proofs.Storing.{storing-begins}
use Rattle.columns.proofs.Sections.{slots-on}
use Rattle.columns_sets.proofs.sections.ListWrites.{slots-reach, slot-reach, slots-reach-on}
use Rattle.columns_sets.proofs.sections.SectionWrites.{start-on, starts-whole, list-in, deltas-whole, count-whole}
use borrow.Author.Rules.{rules}
use Rattle.columns_sets.proofs.sections.write_lists.Goals as goal

pub loop-q-init : goal.loop-q-init
loop-q-init c = (search rules, search slots-reach, search storing-begins, search storing-begins)

pub write_list-p-requires-clause-offsets_value : goal.write_list-p-requires-clause-offsets_value
write_list-p-requires-clause-offsets_value c = (search rules, search rules)

pub write_list-p-requires-clause-s_value : goal.write_list-p-requires-clause-s_value
write_list-p-requires-clause-s_value c = search slot-reach

pub write_list-p-requires-clause-s_in_bounds : goal.write_list-p-requires-clause-s_in_bounds
write_list-p-requires-clause-s_in_bounds c = search list-in

pub loop-q-preserved : goal.loop-q-preserved
loop-q-preserved c = (search rules, search slots-reach-on, search start-on, search (slots-on kinds (λ ds. ds) refl (λ xs ys. refl)))

pub returns-clause-value : goal.returns-clause-value
returns-clause-value c = search count-whole

pub returns-clause-starts_after : goal.returns-clause-starts_after
returns-clause-starts_after c = search starts-whole

pub returns-clause-deltas_after : goal.returns-clause-deltas_after
returns-clause-deltas_after c = search deltas-whole
