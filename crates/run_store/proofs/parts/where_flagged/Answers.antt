use Rattle.run_store.proofs.parts.Made.{flag_is, flag-is-not}
use Rattle.run_store.proofs.parts.where_flagged.Goals as goal

pub returns-then-flag-eq1 : goal.returns-then-flag-eq1
returns-then-flag-eq1 c = search flag_is

pub returns : goal.returns
returns c = search flag-is-not
