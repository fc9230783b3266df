use Rattle.run_state.proofs.order.Turns.{rows_counted, children-counted, roots-counted, links-counted, groups-long, links-long, roots-long, children-long, ordered-by}
use borrow.Author.Rules.{rules}
use Rattle.run_state.proofs.order.is_ordered.Goals as goal

pub columns_ordered-requires : goal.columns_ordered-requires
columns_ordered-requires c = search (rules, rows_counted, children-counted, roots-counted, links-counted, groups-long, links-long, roots-long, children-long)

pub returns : goal.returns
returns c = search ordered-by
