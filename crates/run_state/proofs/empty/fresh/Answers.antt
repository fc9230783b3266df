use mathlib.Core.Path.{refl}
use Rattle.cleaning.specs.Computes.{computes}
use Rattle.run_state.specs.View.{slots_in, sheet_in, held_in}
use Rattle.run_state.specs.Valid.{edges_ok, counts_ok, below, earlier, records_ok, sheet_ok, held_ok}
use Rattle.run_state.specs.Blank.{blank}
use Rattle.run_state.proofs.empty.fresh.Goals as goal

pub returns : goal.returns
unfolding computes slots_in sheet_in held_in edges_ok counts_ok below earlier records_ok sheet_ok held_ok blank
returns c = (refl, (refl, refl))
