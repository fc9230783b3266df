-- The invariant: the numbers still to be stored start at `start + n`, and the survivors still to be counted come on top of n.
use mathlib.Core.Path.{◌≡◌}
use Prim.Native.Nat.{◌≤◌, ◌+◌}
use lib.ListN.{length, drop}
use lib.Seq.{sets}
use Rattle.run_renumber.specs.Numbers.{numbers_from, survivors}
use Rattle.run_renumber.proofs.put_numbers.Given as goal

abbrev pub invariant-loop-i : goal.invariant-loop-i
invariant-loop-i l =
    (l.i ≤ length l.flags) × (l.n ≤ l.i) × (length l.numbers ≡ length l.initial.numbers)
    × (sets l.initial.numbers 0 (numbers_from l.start l.flags) ≡ sets l.numbers l.i (numbers_from (l.start + l.n) (drop l.i l.flags)))
    × (survivors l.flags ≡ l.n + survivors (drop l.i l.flags))
