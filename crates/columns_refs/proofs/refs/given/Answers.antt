use Rattle.columns_refs.proofs.Counted.{given-many}
use Rattle.columns_refs.proofs.refs.given.Goals as goal

pub returns : goal.returns
returns c = search given-many
