use Rattle.run_rules.proofs.parts.SetOrder.{rules-loaded}
use Rattle.run_rules.proofs.parts.sets.rule_set.Goals as goal

pub returns : goal.returns
returns c = search rules-loaded
