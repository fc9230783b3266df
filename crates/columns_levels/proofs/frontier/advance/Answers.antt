use Rattle.columns_levels.proofs.frontier.Turns.{in-buf, keys-more, keys-upto, keys-room, keys-work, end_below, level-laid, level-seen}
use Rattle.columns_levels.proofs.frontier.advance.Goals as goal

pub collect-r-requires-clause-hi_in_bounds : goal.collect-r-requires-clause-hi_in_bounds
collect-r-requires-clause-hi_in_bounds c = search in-buf

pub gather-e-requires-clause-n_le_r : goal.gather-e-requires-clause-n_le_r
gather-e-requires-clause-n_le_r c = (search keys-more, search keys-upto)

pub gather-e-requires-clause-n_in_bounds : goal.gather-e-requires-clause-n_in_bounds
gather-e-requires-clause-n_in_bounds c = (search keys-room, search keys-work)

pub returns-clause-end_le_n : goal.returns-clause-end_le_n
returns-clause-end_le_n c = let k = c.collect-r.ensures.keys in (end_below _ _ _ _ _ _ _ k c.requires.lo_le_m.1 c.gather-e.ensures.upper_bound.0, c.gather-e.ensures.upper_bound.1)

pub returns-clause-laid : goal.returns-clause-laid
returns-clause-laid c =
    let q = c.requires.seen in
    let t = c.requires.table in
    let k = c.collect-r.ensures.keys in
    let x = c.gather-e.ensures.laid in
    level-laid _ _ _ _ c.args.lo _ _ _ _ _ _ _ _ _ _ q k t _ _ x

pub returns-clause-table_2 : goal.returns-clause-table_2
returns-clause-table_2 c = c.collect-r.ensures.table_2

pub returns-clause-seen_2 : goal.returns-clause-seen_2
returns-clause-seen_2 c =
    let q = c.requires.seen in
    let t = c.requires.table in
    let k = c.collect-r.ensures.keys in
    let x = c.gather-e.ensures.laid in
    level-seen _ _ _ _ c.args.lo _ _ _ _ _ _ _ _ _ _ q k t _ _ x c.gather-e.ensures.upper_bound.1
