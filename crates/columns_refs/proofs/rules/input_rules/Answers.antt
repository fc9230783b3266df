use Rattle.columns_refs.proofs.Ruled.{uneven, misplaced, numbers-past, input-kept}
use Rattle.columns_refs.proofs.rules.input_rules.Goals as goal

pub returns-then-not-are_even : goal.returns-then-not-are_even
returns-then-not-are_even c = search uneven

pub returns-then-not-are_rows : goal.returns-then-not-are_rows
returns-then-not-are_rows c = search misplaced

pub returns-then-not-numbers_fit : goal.returns-then-not-numbers_fit
returns-then-not-numbers_fit c = search numbers-past

pub returns : goal.returns
returns c = search input-kept
