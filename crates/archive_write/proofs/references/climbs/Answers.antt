use Rattle.columns_slots.proofs.sets.Turns.{climb-done, climb-falls, climb-on}
use Rattle.archive_write.proofs.references.climbs.Goals as goal

pub returns-then-next-low : goal.returns-then-next-low
returns-then-next-low c = search climb-falls

pub loop-i-preserved : goal.loop-i-preserved
loop-i-preserved c = search climb-on

pub returns : goal.returns
returns c = search climb-done
