use Rattle.std.proofs.Common.{◌-◌, length}
use Rattle.try_replay.proofs.replay.Given as goal

abbrev pub decreases-loop-at : goal.decreases-loop-at
decreases-loop-at l = length l.words - l.at
