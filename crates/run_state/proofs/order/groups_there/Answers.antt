use Rattle.std.proofs.Common.{◌∙◌, rules, tests}
use Rattle.std.proofs.lemmas.Iterator.{YieldsList-from_slice}
use Rattle.std.proofs.lemmas.Iterator.Search.{all_from_yields_List}
use Rattle.run_state.specs.Valid.{below}
use Rattle.run_state.proofs.ColumnTurns.{all-listed}
use Rattle.run_state.proofs.order.groups_there.Goals as goal

pub returns : goal.returns
unfolding below
returns c =
    all_from_yields_List (below c.args.count) _ _ _ c.all.ensures.ran (YieldsList-from_slice c.args.groups.now cc) (λ x b q k. search (rules, tests))
    ∙ all-listed (below c.args.count) c.args.groups.now
