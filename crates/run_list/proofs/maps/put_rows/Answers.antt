use Rattle.run_list.proofs.OverRows.{rows-begin, rows_more, rows-done}
use borrow.Author.Rules.{rules}
use Rattle.run_list.proofs.maps.put_rows.Goals as goal

pub loop-i-init : goal.loop-i-init
loop-i-init c = search (rules, rows-begin)

pub loop-i-preserved : goal.loop-i-preserved
loop-i-preserved c = (
  search rules,
  search rules,
  search rules,
  rows_more _ _ _ _ c.loop-i.invariant.3 (search rules)
      c.put_map-p.ensures,
)

pub returns : goal.returns
returns c = search (rules, rows-done)
