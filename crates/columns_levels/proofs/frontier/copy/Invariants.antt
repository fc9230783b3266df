-- The invariant: the part passed is copied.
use mathlib.Core.Path.{◌≡◌}
use Prim.Native.Nat.{◌≤◌, ◌+◌}
use lib.ListN.{length}
use lib.Seq.{slice}
use Rattle.columns_levels.specs.frontier.Frontier.{copied}
use Rattle.columns_levels.proofs.frontier.copy.Given as goal

abbrev pub invariant-loop-i : goal.invariant-loop-i
invariant-loop-i l =
    (l.i ≤ l.k) × (length l.l ≡ length l.initial.l) × (copied l.initial.l l.at (slice l.from (l.from + l.k) l.src) ≡ copied l.l (l.at + l.i) (slice (l.from + l.i) (l.from + l.k) l.src))
