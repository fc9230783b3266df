use Rattle.std.proofs.Common.{◌∙◌, rules, tests, ltb}
use Rattle.std.proofs.lemmas.Iterator.{YieldsList-from_slice}
use Rattle.std.proofs.lemmas.Iterator.Search.{any_from_yields_List}
use Rattle.cover_rows.proofs.limits.Anyone.{any-listed}
use Rattle.cover_rows.proofs.limits.any_over.Goals as goal

pub returns : goal.returns
returns c =
    any_from_yields_List (ltb 1024) _ _ _ c.any.ensures.ran (YieldsList-from_slice c.args.lengths.now cc) (λ x b q k. search (rules, tests)) ∙ any-listed (ltb 1024) c.args.lengths.now
