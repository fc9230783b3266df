use native.Mathlib.Omega.{arith}
use Rattle.archive_write.proofs.Judged.{sets-fit, sized}
use borrow.Author.Rules.{rules}
use Rattle.archive_write.proofs.rules.low_sets.Goals as goal

pub sets_size-n-requires : goal.sets_size-n-requires
sets_size-n-requires c = let k = sets-fit _ _ _ _ _ _ c.requires in omega arith

pub returns : goal.returns
returns c = search (rules, sized)
