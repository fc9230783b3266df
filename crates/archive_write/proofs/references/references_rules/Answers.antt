use Rattle.archive_write.proofs.Judged.{many-rows, many, broken, no_room, none-broken}
use Rattle.archive_write.proofs.references.Asked.{few-offsets, few-kinds}
use borrow.Author.Rules.{rules}
use Rattle.archive_write.proofs.references.references_rules.Goals as goal

pub returns-then-rows_over : goal.returns-then-rows_over
returns-then-rows_over c = search (rules, many-rows)

pub returns-then-is_over : goal.returns-then-is_over
returns-then-is_over c = search (rules, many)

pub returns-then-not-whole_references : goal.returns-then-not-whole_references
returns-then-not-whole_references c = search (rules, broken)

pub low_references-requires : goal.low_references-requires
low_references-requires c = (search few-offsets, search few-kinds)

pub returns-then-low_references : goal.returns-then-low_references
returns-then-low_references c = search (rules, no_room)

pub returns : goal.returns
returns c = search (rules, none-broken)
