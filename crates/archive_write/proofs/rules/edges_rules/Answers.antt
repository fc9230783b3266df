use Rattle.archive_write.proofs.Judged.{many-rows, many, broken, no_room, none-broken, numbers-few}
use borrow.Author.Rules.{rules}
use Rattle.archive_write.proofs.rules.edges_rules.Goals as goal

pub returns-then-is_over : goal.returns-then-is_over
returns-then-is_over c = search (rules, many-rows)

pub returns-then-is_over-2 : goal.returns-then-is_over-2
returns-then-is_over-2 c = search (rules, many)

pub returns-then-not-whole_sets : goal.returns-then-not-whole_sets
returns-then-not-whole_sets c = search (rules, broken)

pub low_sets-requires : goal.low_sets-requires
low_sets-requires c = numbers-few _ c.is_over-2.ensures c.if-is_over-2.false

pub returns-then-low_sets : goal.returns-then-low_sets
returns-then-low_sets c = search (rules, no_room)

pub returns : goal.returns
returns c = search (rules, none-broken)
