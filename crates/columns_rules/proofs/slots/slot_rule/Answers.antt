use Rattle.columns_rules.proofs.ParentTurns.{slot_in, next-in, slot_order, slot_inside, slot-says}
use borrow.Author.Rules.{rules}
use Rattle.columns_rules.proofs.slots.slot_rule.Goals as goal

pub bounds-offsets-s : goal.bounds-offsets-s
bounds-offsets-s c = search slot_in

pub bounds-offsets-s-2 : goal.bounds-offsets-s-2
bounds-offsets-s-2 c = search next-in

pub parent_rules-requires : goal.parent_rules-requires
parent_rules-requires c = (search slot_order, search slot_inside)

pub returns : goal.returns
returns c = search (rules, slot-says)
