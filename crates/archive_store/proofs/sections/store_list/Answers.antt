use Rattle.std.proofs.Common.{rules}
use Rattle.columns.proofs.Offsets.{inside}
use Rattle.columns.proofs.Sections.{list-begins, list_done, list-next, list-room, list_on}
use Rattle.archive_store.specs.sections.DeltaBytes.{delta_bytes}
use Rattle.archive_store.proofs.sections.Slots.{bytes-none, bytes-append}
use Rattle.archive_store.proofs.sections.store_list.Goals as goal

pub loop-j-init : goal.loop-j-init
loop-j-init c = (search (rules, inside), search (list-begins delta_bytes bytes-none bytes-append))

pub store_delta-p-requires : goal.store_delta-p-requires
store_delta-p-requires c = search (list-room delta_bytes bytes-none bytes-append)

pub loop-j-preserved : goal.loop-j-preserved
loop-j-preserved c = (search rules, search (list_on delta_bytes bytes-none bytes-append))

pub returns-clause-out_after : goal.returns-clause-out_after
returns-clause-out_after c = search (list_done delta_bytes bytes-none bytes-append)

pub returns-clause-value : goal.returns-clause-value
returns-clause-value c = search (list-next delta_bytes bytes-none bytes-append)
