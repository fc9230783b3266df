-- The invariant: no number passed is a key.
use Prim.Native.Nat.{◌≤◌}
use lib.ListN.{take}
use Rattle.columns_levels.specs.rounds.Closure.{Free}
use Rattle.columns_levels.proofs.rounds.common.Given as goal

abbrev pub invariant-loop-i : goal.invariant-loop-i
invariant-loop-i l = (l.i ≤ l.m) × Free (take l.n l.keys) (take l.i l.others)
