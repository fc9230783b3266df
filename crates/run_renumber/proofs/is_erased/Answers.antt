-- By the number and the flag.
use Rattle.run_renumber.proofs.Erased.{none_before, by_flag}
use Rattle.run_renumber.proofs.is_erased.Goals as goal

pub returns-then-p-start : goal.returns-then-p-start
returns-then-p-start c = search none_before

pub returns : goal.returns
returns c = search by_flag
