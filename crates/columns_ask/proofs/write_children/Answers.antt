use Rattle.columns_ask.proofs.Asked.{both-counted, both-written}
use Rattle.columns_ask.proofs.Found.{list-few}
use borrow.Author.Rules.{rules}
use Rattle.columns_ask.proofs.write_children.Goals as goal

pub write_list-n-requires-clause-kind_lt_width : goal.write_list-n-requires-clause-kind_lt_width
write_list-n-requires-clause-kind_lt_width c = (search rules, search rules)

pub write_list-requires-clause-kind_lt_width : goal.write_list-requires-clause-kind_lt_width
write_list-requires-clause-kind_lt_width c = (search rules, search list-few)

pub returns-clause-value : goal.returns-clause-value
returns-clause-value c = search both-counted

pub returns-clause-out_after : goal.returns-clause-out_after
returns-clause-out_after c = search both-written
