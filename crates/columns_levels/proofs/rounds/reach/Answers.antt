use Rattle.columns_levels.proofs.rounds.Closed.{planted}
use Rattle.columns_levels.proofs.rounds.reach.Goals as goal

pub spread-requires-clause-grown : goal.spread-requires-clause-grown
spread-requires-clause-grown c = search planted
