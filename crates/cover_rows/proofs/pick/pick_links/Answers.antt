use Rattle.cover_rows.proofs.pick.Picking.{in-range, links-picked}
use Rattle.cover_rows.proofs.pick.pick_links.Goals as goal

pub pick-requires-2-clause-rows_value : goal.pick-requires-2-clause-rows_value
pick-requires-2-clause-rows_value c = search in-range

pub pick-requires-3-clause-rows_value : goal.pick-requires-3-clause-rows_value
pick-requires-3-clause-rows_value c = search in-range

pub pick-requires-4-clause-rows_value : goal.pick-requires-4-clause-rows_value
pick-requires-4-clause-rows_value c = search in-range

pub returns : goal.returns
returns c = search links-picked
