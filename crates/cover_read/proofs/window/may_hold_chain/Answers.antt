use Rattle.cover_read.proofs.Windows.{window-over, window-form, window-fits, window-told}
use Rattle.cover_read.proofs.window.may_hold_chain.Goals as goal

pub returns-then-any_over : goal.returns-then-any_over
returns-then-any_over c = search window-over

pub returns-then-not-ranges_fit : goal.returns-then-not-ranges_fit
returns-then-not-ranges_fit c = search window-form

pub holds-requires : goal.holds-requires
holds-requires c = search window-fits

pub returns : goal.returns
returns c = search window-told
