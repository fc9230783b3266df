use Rattle.columns_rules.proofs.FileOrder.{numbers-are}
use Rattle.columns_refs.proofs.rules.numbers_fit.Goals as goal

pub returns : goal.returns
returns c = search numbers-are
