use Rattle.run_list.proofs.OverGroups.{all_room, all_lines, parents-shown, children-shown, group-room, need-left, lines_left, lines-done}
use borrow.Author.Rules.{rules}
use Rattle.run_list.proofs.files.put_files.Goals as goal

pub loop-g-init : goal.loop-g-init
loop-g-init c = search (rules, all_room, all_lines)

pub put_group-p-requires-clause-shown : goal.put_group-p-requires-clause-shown
put_group-p-requires-clause-shown c = (search (rules, parents-shown), search (rules, children-shown))

pub put_group-p-requires-clause-kids_in_bounds : goal.put_group-p-requires-clause-kids_in_bounds
put_group-p-requires-clause-kids_in_bounds c = search (rules, group-room)

pub loop-g-preserved : goal.loop-g-preserved
loop-g-preserved c = (search rules, search rules, search (rules, need-left), search (rules, lines_left))

pub returns : goal.returns
returns c = search (rules, lines-done)
