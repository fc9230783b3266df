use mathlib.Core.Path.{◌≡◌}
use Prim.Native.Nat.{◌≤◌, ◌+◌, ◌*◌}
use lib.ListN.{drop}
use Rattle.columns.specs.Limits.{kinds}
use Rattle.lists.specs.Lists.{part}
use Rattle.columns.specs.EdgeSet.{cut}
use Rattle.columns.specs.Building.{deltas_fit}
use Rattle.columns_rules.specs.spans.Spanned.{slots_fit}
use Rattle.columns_rules.proofs.spans.reach.slots_fit.Given as goal

abbrev pub invariant-loop-q : goal.invariant-loop-q
invariant-loop-q l =
    (l.q ≤ 2 * l.n) × (deltas_fit kinds (l.first + l.from) (part (2 * l.from) (2 * l.n) (cut l.offsets l.targets))
    ≡ slots_fit (l.first + l.from) l.q (drop l.q (part (2 * l.from) (2 * l.n) (cut l.offsets l.targets))))
