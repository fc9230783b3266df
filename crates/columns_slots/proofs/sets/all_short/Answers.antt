use Rattle.std.proofs.Common.{◌∙◌, rules, tests}
use Rattle.std.proofs.lemmas.Iterator.{YieldsList-from_slice}
use Rattle.std.proofs.lemmas.Iterator.Search.{all_from_yields_List}
use Rattle.columns.specs.Answers.{short32}
use Rattle.columns_slots.proofs.sets.Listed.{all-listed}
use Rattle.columns_slots.proofs.sets.all_short.Goals as goal

pub returns : goal.returns
returns c =
    all_from_yields_List short32 _ _ _ c.all.ensures.ran (YieldsList-from_slice c.args.column.now cc) (λ x b q k. search (rules, tests)) ∙ all-listed short32 c.args.column.now
