use Rattle.columns_rules.proofs.FileOrder.{numbers-are}
use Rattle.columns_rules.proofs.file.numbers_fit.Goals as goal

pub returns : goal.returns
returns c = search numbers-are
