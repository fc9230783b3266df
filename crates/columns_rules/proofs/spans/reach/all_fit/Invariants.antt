use mathlib.Core.Path.{◌≡◌}
use lib.Seq.{slice}
use Rattle.columns_rules.specs.spans.Spanned.{spans_fit}
use Rattle.columns_rules.proofs.spans.reach.all_fit.Given as goal

abbrev pub invariant-loop-j : goal.invariant-loop-j
invariant-loop-j l = spans_fit l.event (slice l.from l.to l.targets) ≡ spans_fit l.event (slice l.j l.to l.targets)
