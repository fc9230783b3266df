use Rattle.std.proofs.Common.{◌∙◌, leb, rules, tests}
use Rattle.std.proofs.lemmas.Iterator.{YieldsList-from_slice}
use Rattle.std.proofs.lemmas.Iterator.Search.{all_from_yields_List}
use Rattle.archive_bytes.proofs.Listed.{all-listed}
use Rattle.archive_write.specs.ByColumns.{up_to}
use Rattle.archive_write.proofs.references.is_up_to.Goals as goal

pub returns : goal.returns
unfolding up_to
returns c =
    all_from_yields_List (λ x. leb x c.args.greatest) _ _ _ c.all.ensures.ran (YieldsList-from_slice c.args.column.now cc) (λ x b q k. search (rules, tests))
    ∙ all-listed (λ x. leb x c.args.greatest) c.args.column.now
