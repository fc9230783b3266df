use Rattle.cover_sort.proofs.Leveling.{level-start, level-done, level-not, level-on}
use Rattle.cover_sort.proofs.level.links_level.Goals as goal

pub loop-i-init : goal.loop-i-init
loop-i-init c = search level-start

pub returns-then-is_less : goal.returns-then-is_less
returns-then-is_less c = search level-not

pub loop-i-preserved : goal.loop-i-preserved
loop-i-preserved c = search level-on

pub returns : goal.returns
returns c = search level-done
