use Rattle.std.proofs.Common.{rules}
use Rattle.columns.specs.Limits.{kinds}
use Rattle.lists.proofs.Storing.{storing-begins}
use Rattle.columns.proofs.Sections.{slots-done, slots_next, slots-room, slots-on}
use Rattle.archive_store.specs.sections.DeltaBytes.{delta_bytes}
use Rattle.archive_store.proofs.sections.Slots.{bytes-none, bytes-append}
use Rattle.archive_store.proofs.sections.store_deltas.Goals as goal

pub loop-q-init : goal.loop-q-init
loop-q-init c = (search rules, search storing-begins)

pub store_list-p-requires-clause-offsets_value : goal.store_list-p-requires-clause-offsets_value
store_list-p-requires-clause-offsets_value c = (search rules, search rules)

pub store_list-p-requires-clause-s_in_bounds : goal.store_list-p-requires-clause-s_in_bounds
store_list-p-requires-clause-s_in_bounds c = search (slots-room kinds delta_bytes bytes-none bytes-append)

pub loop-q-preserved : goal.loop-q-preserved
loop-q-preserved c = (search rules, search (slots-on kinds delta_bytes bytes-none bytes-append))

pub returns-clause-out_after : goal.returns-clause-out_after
returns-clause-out_after c = search (slots-done kinds delta_bytes bytes-none bytes-append)

pub returns-clause-value : goal.returns-clause-value
returns-clause-value c = search (slots_next kinds delta_bytes bytes-none bytes-append)
