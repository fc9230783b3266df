use Rattle.run_rules.proofs.parts.HeadOrder.{own-subject, own-numbers, own-depth, own-kept}
use Rattle.run_rules.proofs.parts.heads.own_rules.Goals as goal

pub returns-then-not-subject_fits : goal.returns-then-not-subject_fits
returns-then-not-subject_fits c = search own-subject

pub returns-then-not-numbers_fit : goal.returns-then-not-numbers_fit
returns-then-not-numbers_fit c = search own-numbers

pub returns-then-not-depth_fits : goal.returns-then-not-depth_fits
returns-then-not-depth_fits c = search own-depth

pub returns : goal.returns
returns c = search own-kept
