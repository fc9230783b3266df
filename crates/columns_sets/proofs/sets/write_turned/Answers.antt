use Rattle.columns_sets.proofs.sets.WholeSets.{turned-room, turned-many, turned-offsets, turned-reached, turned-counted, turned-starts, turned-deltas}
use borrow.Author.Rules.{rules}
use Rattle.columns_sets.proofs.sets.write_turned.Goals as goal

pub turn-m-requires-clause-rows_bound : goal.turn-m-requires-clause-rows_bound
turn-m-requires-clause-rows_bound c = (search rules, (search rules, search rules))

pub turn-m-requires-clause-rows_in_bounds : goal.turn-m-requires-clause-rows_in_bounds
turn-m-requires-clause-rows_in_bounds c = (search rules, search rules)

pub write_table-requires-clause-rows_in_bounds : goal.write_table-requires-clause-rows_in_bounds
write_table-requires-clause-rows_in_bounds c =
    let t = c.turn-m.ensures in
    let given = c.requires.turnable in
    (turned-offsets _ _ _ _ _ _ given _ t.value _ _ t.offs_after _ _ t.out_after, turned-many _ _ _ _ _ _ given _ t.value _ _ t.offs_after _ _ t.out_after)

pub write_table-requires-clause-reached : goal.write_table-requires-clause-reached
write_table-requires-clause-reached c = let t = c.turn-m.ensures in let given = c.requires.turnable in turned-reached _ _ _ _ _ _ given _ t.value _ _ t.offs_after _ _ t.out_after

pub write_table-requires-clause-n_in_bounds : goal.write_table-requires-clause-n_in_bounds
write_table-requires-clause-n_in_bounds c =
    let t = c.turn-m.ensures in
    let given = c.requires.turnable in
    (search rules, turned-room _ _ _ _ _ _ given _ t.value _ _ t.offs_after _ _ t.out_after _ t.upper_bound (search rules))

pub returns-clause-value : goal.returns-clause-value
returns-clause-value c = search turned-counted

pub returns-clause-starts_after : goal.returns-clause-starts_after
returns-clause-starts_after c = search turned-starts

pub returns-clause-deltas_after : goal.returns-clause-deltas_after
returns-clause-deltas_after c = search turned-deltas
