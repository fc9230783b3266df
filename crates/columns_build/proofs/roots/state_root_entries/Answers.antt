use mathlib.Core.Path.{sym}
use Rattle.columns.specs.declared.refusal.Refusal.TheVariants.{RootOutside, SliceShort, OverRecords}
use Rattle.columns_build.proofs.RootRows.{answer-refused, out-refused, many-rows, many-events, short-out, root-outside, roots-answer, roots-out, roots-inside}
use Rattle.columns_build.proofs.roots.state_root_entries.Goals as goal

pub returns-then-rows-gt1024-clause-value : goal.returns-then-rows-gt1024-clause-value
returns-then-rows-gt1024-clause-value c = search (answer-refused OverRecords, many-rows)

pub returns-then-rows-gt1024-clause-out_after : goal.returns-then-rows-gt1024-clause-out_after
returns-then-rows-gt1024-clause-out_after c = sym (search (out-refused OverRecords, many-rows))

pub returns-then-events-gt1024-clause-value : goal.returns-then-events-gt1024-clause-value
returns-then-events-gt1024-clause-value c = search (answer-refused OverRecords, many-events)

pub returns-then-events-gt1024-clause-out_after : goal.returns-then-events-gt1024-clause-out_after
returns-then-events-gt1024-clause-out_after c = sym (search (out-refused OverRecords, many-events))

pub returns-then-out-lt1024-clause-value : goal.returns-then-out-lt1024-clause-value
returns-then-out-lt1024-clause-value c = search (answer-refused SliceShort, short-out)

pub returns-then-out-lt1024-clause-out_after : goal.returns-then-out-lt1024-clause-out_after
returns-then-out-lt1024-clause-out_after c = sym (search (out-refused SliceShort, short-out))

pub returns-then-not-all_in_file-clause-value : goal.returns-then-not-all_in_file-clause-value
returns-then-not-all_in_file-clause-value c = search (answer-refused RootOutside, root-outside)

pub returns-then-not-all_in_file-clause-out_after : goal.returns-then-not-all_in_file-clause-out_after
returns-then-not-all_in_file-clause-out_after c = sym (search (out-refused RootOutside, root-outside))

pub write_rows-requires-clause-events_value : goal.write_rows-requires-clause-events_value
write_rows-requires-clause-events_value c = search roots-inside

pub returns-clause-value : goal.returns-clause-value
returns-clause-value c = search roots-answer

pub returns-clause-out_after : goal.returns-clause-out_after
returns-clause-out_after c = search roots-out
