use Rattle.cover_rows.proofs.Rowed.{rise-first, rise-done, rise-not, rise-on}
use Rattle.cover_rows.proofs.Links.rise.Goals as goal

pub loop-i-init : goal.loop-i-init
loop-i-init c = search rise-first

pub returns-then-not-is_less : goal.returns-then-not-is_less
returns-then-not-is_less c = search rise-not

pub loop-i-preserved : goal.loop-i-preserved
loop-i-preserved c = search rise-on

pub returns : goal.returns
returns c = search rise-done
