use Rattle.cover_read.proofs.Climbing.{rising_none, rising-first}
use Rattle.cover_read.proofs.ranges.ids_rise.Goals as goal

pub returns-then-ids-eq0 : goal.returns-then-ids-eq0
returns-then-ids-eq0 c = search rising_none

pub returns : goal.returns
returns c = search rising-first
