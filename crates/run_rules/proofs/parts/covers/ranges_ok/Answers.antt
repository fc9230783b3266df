use Rattle.run_rules.proofs.parts.CoverTurns.{chains-bad, then-order}
use Rattle.run_rules.proofs.parts.covers.ranges_ok.Goals as goal

pub returns-then-not-chains_rise : goal.returns-then-not-chains_rise
returns-then-not-chains_rise c = search chains-bad

pub returns : goal.returns
returns c = search then-order
