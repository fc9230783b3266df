use Rattle.columns_rules.proofs.FileOrder.{numbers-are}
use Rattle.run_rules.proofs.parts.heads.numbers_fit.Goals as goal

pub returns : goal.returns
returns c = search numbers-are
