use Rattle.run_store.proofs.parts.Made.{is-new, is-joined}
use Rattle.run_store.proofs.parts.with_group.Goals as goal

pub returns-then-at-g : goal.returns-then-at-g
returns-then-at-g c = search is-new

pub returns : goal.returns
returns c = search is-joined
