use Rattle.run_rules.proofs.parts.HeadTests.{depth-unknown, depth-known}
use Rattle.run_rules.proofs.parts.heads.depth_fits.Goals as goal

pub returns-then-flag-ne1 : goal.returns-then-flag-ne1
returns-then-flag-ne1 c = search depth-unknown

pub returns : goal.returns
returns c = search depth-known
