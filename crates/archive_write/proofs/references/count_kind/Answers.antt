use Rattle.std.proofs.Common.{◌∙◌, ap, eqb, length, rules, tests}
use Rattle.std.proofs.lemmas.Iterator.{YieldsList-from_slice}
use Rattle.std.proofs.lemmas.Iterator.Consumers.{count_from_yields_List, YieldsList-from_filter}
use Rattle.archive_bytes.proofs.Listed.{filter-listed}
use Rattle.archive_write.specs.ByColumns.{times_in}
use Rattle.archive_write.proofs.references.count_kind.Goals as goal

pub returns : goal.returns
unfolding times_in
returns c =
    count_from_yields_List c.filter.result _ c.count.ensures.ran
    (YieldsList-from_filter _ (λ k. eqb k c.args.kind) (YieldsList-from_slice c.args.row.now (rw c.filter.ensures.source c.iter.ensures.rest)) c.filter.ensures.closure
    (λ x b q k. search (rules, tests)))
    ∙ ap length (filter-listed (λ k. eqb k c.args.kind) c.args.row.now)
