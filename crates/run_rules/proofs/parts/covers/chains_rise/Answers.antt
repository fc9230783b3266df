use Rattle.run_rules.proofs.parts.CoverTurns.{no-chains}
use Rattle.run_rules.proofs.parts.covers.chains_rise.Goals as goal

pub returns-then-n-eq0 : goal.returns-then-n-eq0
returns-then-n-eq0 c = search no-chains
