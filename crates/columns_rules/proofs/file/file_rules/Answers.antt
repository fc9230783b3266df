use mathlib.Core.Bool.{not}
use mathlib.Core.Path.{ap}
use Rattle.columns_rules.proofs.FileOrder.{subject-bad, entries-bad, numbers-bad, then-parents, numbers-good}
use Rattle.columns_rules.proofs.file.file_rules.Goals as goal

pub returns-then-not-subject_fits : goal.returns-then-not-subject_fits
returns-then-not-subject_fits c = search subject-bad

pub returns-then-not-is_form : goal.returns-then-not-is_form
returns-then-not-is_form c = search entries-bad

pub returns-then-not-numbers_fit : goal.returns-then-not-numbers_fit
returns-then-not-numbers_fit c = search numbers-bad

pub returns : goal.returns
returns c = search then-parents

pub slot_rules-requires-clause-rows_bound : goal.slot_rules-requires-clause-rows_bound
slot_rules-requires-clause-rows_bound c = (c.requires, numbers-good _ _ c.numbers_fit.ensures (ap not c.if-not-numbers_fit.false))
