use Rattle.std.proofs.Common.{◌∙◌, rules, tests}
use Rattle.std.proofs.Math.Seq.{slice}
use Rattle.std.proofs.lemmas.Iterator.{YieldsList-from_slice}
use Rattle.std.proofs.lemmas.Iterator.Search.{all_from_yields_List}
use Rattle.columns.specs.EdgeSet.{sound}
use Rattle.columns_slots.proofs.sets.Listed.{all-listed, part-slice}
use Rattle.columns_slots.proofs.sets.all_sound.Goals as goal

pub returns : goal.returns
returns c =
    let a = c.args in
    let deltas = slice a.from a.to a.deltas.now in
    all_from_yields_List (sound a.set a.end a.event) _ _ _ c.all.ensures.ran
    (YieldsList-from_slice deltas (search (rules, part-slice))) (λ x b q k. search (rules, tests)) ∙ all-listed (sound a.set a.end a.event) deltas
