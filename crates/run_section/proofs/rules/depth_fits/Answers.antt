use Rattle.run_section.proofs.Tested.{not-deep, deep-fits}
use Rattle.run_section.proofs.rules.depth_fits.Goals as goal

pub returns-then-not-k : goal.returns-then-not-k
returns-then-not-k c = search not-deep

pub returns : goal.returns
returns c = search deep-fits
