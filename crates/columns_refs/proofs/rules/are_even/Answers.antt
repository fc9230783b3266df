use Rattle.columns_refs.proofs.Ruled.{spaces-differ, targets-differ, known-differ, numbers-differ}
use Rattle.columns_refs.proofs.rules.are_even.Goals as goal

pub returns-then-spaces-kinds : goal.returns-then-spaces-kinds
returns-then-spaces-kinds c = search spaces-differ

pub returns-then-targets-kinds : goal.returns-then-targets-kinds
returns-then-targets-kinds c = search targets-differ

pub returns-then-known-kinds : goal.returns-then-known-kinds
returns-then-known-kinds c = search known-differ

pub returns : goal.returns
returns c = search numbers-differ
