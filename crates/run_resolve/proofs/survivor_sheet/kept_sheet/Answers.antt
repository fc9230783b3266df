-- Each column is kept by its own function.
use Rattle.run_resolve.proofs.survivor_sheet.SheetParts.{part-rows, part-unresolved, part-roots, part-links, part-groups, flags-few, flags-end, children-here}
use Rattle.run_resolve.proofs.survivor_sheet.SheetParts.{roots-here, children-long, roots-long, links-level}
use borrow.Author.Rules.{rules}
use Rattle.run_resolve.proofs.survivor_sheet.kept_sheet.Goals as goal

pub kept_rows-rows-requires : goal.kept_rows-rows-requires
kept_rows-rows-requires c = (search rules, search part-rows)

pub new_unresolved-unresolved-requires-clause-count_bound : goal.new_unresolved-unresolved-requires-clause-count_bound
new_unresolved-unresolved-requires-clause-count_bound c = (search part-unresolved, (search flags-few, search flags-end))

pub new_unresolved-unresolved-requires-clause-children_len : goal.new_unresolved-unresolved-requires-clause-children_len
new_unresolved-unresolved-requires-clause-children_len c = (search children-long, search children-here)

pub new_roots-roots-requires-clause-count_bound : goal.new_roots-roots-requires-clause-count_bound
new_roots-roots-requires-clause-count_bound c = (search part-roots, (search flags-few, search flags-end))

pub new_roots-roots-requires-clause-rows_len : goal.new_roots-roots-requires-clause-rows_len
new_roots-roots-requires-clause-rows_len c = (search roots-long, search roots-here)

pub sort_groups-links-requires : goal.sort_groups-links-requires
sort_groups-links-requires c = (search part-links, (search (rules, part-groups), search links-level))

pub returns : goal.returns
returns c = record {
  start = search rules;
  subject = search rules;
  groups = search rules;
  rows = search rules;
  edges = search rules;
  unresolved = search rules;
  unresolved_few = search rules;
  roots = search rules;
  roots_few = search rules;
  links = search rules;
  links_few = search rules;
}
