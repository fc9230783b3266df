use Rattle.std.proofs.Common.{◌∙◌, rules, tests, ltb}
use Rattle.std.proofs.lemmas.Iterator.{YieldsList-from_slice}
use Rattle.std.proofs.lemmas.Iterator.Search.{any_from_yields_List}
use Rattle.cover_rows.proofs.limits.Anyone.{short-listed}
use Rattle.cover_rows.proofs.limits.any_short.Goals as goal

pub returns : goal.returns
returns c =
    any_from_yields_List (λ n. ltb n 1024) _ _ _ c.any.ensures.ran (YieldsList-from_slice c.args.lengths.now cc) (λ x b q k. search (rules, tests)) ∙ short-listed c.args.lengths.now
