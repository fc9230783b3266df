use Rattle.columns_refs.proofs.Counted.{no-parent, by-sequence, by_answer}
use Rattle.columns_refs.proofs.refs.is_unresolved.Goals as goal

pub returns-then-x-gt1 : goal.returns-then-x-gt1
returns-then-x-gt1 c = search no-parent

pub returns-then-x-eq3 : goal.returns-then-x-eq3
returns-then-x-eq3 c = search by-sequence

pub returns : goal.returns
returns c = search by_answer
