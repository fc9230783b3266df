use Rattle.run_rules.proofs.files.PartOrder.{subject-cut}
use Rattle.run_rules.proofs.files.one.body_rules.Goals as goal

pub returns : goal.returns
returns c = search subject-cut
