use mathlib.Core.Path.{refl}
use Rattle.columns.proofs.Handed.{handed-on}
use Rattle.run_take.proofs.Answers.{files-fit}
use Rattle.run_clean.proofs.Chain.{taking-stops, taken-alone, taking-goes}
use Rattle.run_clean.proofs.survivors.Goals as goal

pub gathered-requires : goal.gathered-requires
gathered-requires c = search (taken-alone, files-fit, c.in_ok-rules_by.was)

pub returns-in_err-rules_by : goal.returns-in_err-rules_by
returns-in_err-rules_by c = search (taking-stops, c.in_err-rules_by.was, handed-on _ c.from_residual.ensures refl)

pub returns : goal.returns
returns c = search (taking-goes, c.in_ok-rules_by.was)
