use Rattle.std.proofs.Common.{◌+◌, ◌∙◌, rules, tests}
use Rattle.std.proofs.lemmas.Iterator.{YieldsList-from_slice}
use Rattle.std.proofs.lemmas.Iterator.Search.{all_from_yields_List}
use Rattle.columns.specs.Building.{in_file}
use Rattle.run_state.proofs.ColumnTurns.{all-listed}
use Rattle.run_state.proofs.tests.are_in_file.Goals as goal

pub returns : goal.returns
returns c = let test = in_file c.args.first (c.args.first + c.args.rows) in
    all_from_yields_List test _ _ _ c.all.ensures.ran (YieldsList-from_slice c.args.numbers.now cc) (λ x b q k. search (rules, tests))
    ∙ all-listed test c.args.numbers.now
