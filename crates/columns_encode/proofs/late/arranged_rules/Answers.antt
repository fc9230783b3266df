use Rattle.columns_encode.proofs.Later.{arrived-long, arrived-many, lent-form, lent_level, arranged, arranged-says}
use borrow.Author.Rules.{rules}
use Rattle.columns_encode.proofs.late.arranged_rules.Goals as goal

pub arrange-m-requires-clause-rows_bound : goal.arrange-m-requires-clause-rows_bound
arrange-m-requires-clause-rows_bound c = (search rules, search rules)

pub arrange-m-requires-clause-rows_in_bounds : goal.arrange-m-requires-clause-rows_in_bounds
arrange-m-requires-clause-rows_in_bounds c = (search rules, search rules)

pub table_rules-requires-clause-rows_bound : goal.table_rules-requires-clause-rows_bound
table_rules-requires-clause-rows_bound c = (search rules, search rules)

pub table_rules-requires-clause-rows_in_bounds : goal.table_rules-requires-clause-rows_in_bounds
table_rules-requires-clause-rows_in_bounds c =
    let t = c.arrange-m.ensures in
    (arrived-long _ _ _ _ _ _ t.value _ _ t.offs_after _ _ t.out_after, arrived-many _ _ _ _ _ _ t.value _ _ t.offs_after _ _ t.out_after)

pub table_rules-requires-clause-offs_value : goal.table_rules-requires-clause-offs_value
table_rules-requires-clause-offs_value c = let t = c.arrange-m.ensures in lent-form _ _ _ _ _ _ t.value _ _ t.offs_after _ _ t.out_after

pub table_rules-requires-clause-list_value : goal.table_rules-requires-clause-list_value
table_rules-requires-clause-list_value c = let t = c.arrange-m.ensures in lent_level _ _ _ _ _ _ t.value _ _ t.offs_after _ _ t.out_after

pub returns-clause-value : goal.returns-clause-value
returns-clause-value c = search arranged-says

pub returns-clause-arranged : goal.returns-clause-arranged
returns-clause-arranged c = search arranged
