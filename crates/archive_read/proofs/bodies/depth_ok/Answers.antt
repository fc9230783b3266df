use Rattle.archive_read.proofs.bodies.AtHead.{flag_one, flag-wrong, low-wrong, high-test}
use Rattle.archive_read.proofs.bodies.depth_ok.Goals as goal

pub returns-then-flag-eq1 : goal.returns-then-flag-eq1
returns-then-flag-eq1 c = search flag_one

pub returns-then-flag-ne0 : goal.returns-then-flag-ne0
returns-then-flag-ne0 c = search flag-wrong

pub returns-then-least-ne0 : goal.returns-then-least-ne0
returns-then-least-ne0 c = search low-wrong

pub returns : goal.returns
returns c = search high-test
