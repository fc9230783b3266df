use Rattle.std.proofs.Common.{rules}
use Rattle.run_rules.specs.limits.Figures.{figures}
use Rattle.run_rules.proofs.limits.count.Goals as goal

pub returns : goal.returns
unfolding figures
returns c = search rules
