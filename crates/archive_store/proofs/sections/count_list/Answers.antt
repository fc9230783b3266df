use Rattle.columns.proofs.Offsets.{ordered, inside}
use Rattle.archive_store.proofs.sections.Slots.{list_counted}
use Rattle.std.proofs.Common.{rules}
use Rattle.archive_store.proofs.sections.count_list.Goals as goal

pub count_between-requires : goal.count_between-requires
count_between-requires c = search (rules, ordered, inside)

pub returns : goal.returns
returns c = search (rules, list_counted)
