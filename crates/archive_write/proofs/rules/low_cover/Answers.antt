use native.Mathlib.Omega.{arith}
use Rattle.archive_write.proofs.Judged.{cover-fits, sized}
use borrow.Author.Rules.{rules}
use Rattle.archive_write.proofs.rules.low_cover.Goals as goal

pub cover_body-n-requires : goal.cover_body-n-requires
cover_body-n-requires c = let k = cover-fits _ _ _ _ _ _ _ _ _ c.requires in omega arith

pub returns : goal.returns
returns c = search (rules, sized)
