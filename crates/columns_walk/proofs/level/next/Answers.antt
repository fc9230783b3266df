use Rattle.columns_walk.proofs.level.Verdicts.{long-refused, long_kept, not-long}
use Rattle.columns_walk.proofs.level.next.Goals as goal

pub returns-then-is_over-clause-value : goal.returns-then-is_over-clause-value
returns-then-is_over-clause-value c = search long-refused

pub returns-then-is_over-clause-out_after : goal.returns-then-is_over-clause-out_after
returns-then-is_over-clause-out_after c = search long_kept

pub step_from-requires : goal.step_from-requires
step_from-requires c = search not-long
