use Rattle.std.proofs.Common.{◌∙◌, ltb, rules, tests}
use Rattle.std.proofs.lemmas.Iterator.{YieldsList-from_slice}
use Rattle.std.proofs.lemmas.Iterator.Search.{any_from_yields_List}
use Rattle.archive_bytes.proofs.Listed.{any-listed}
use Rattle.archive_write.proofs.rules.is_over.Goals as goal

pub returns : goal.returns
returns c =
    any_from_yields_List (ltb c.args.most) _ _ _ c.any.ensures.ran (YieldsList-from_slice c.args.counts.now cc) (λ x b q k. search (rules, tests))
    ∙ any-listed (ltb c.args.most) c.args.counts.now
