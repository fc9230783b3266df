use Rattle.std.proofs.Common.{◌≤◌, ◌-◌}
use Rattle.try_kinds.proofs.print_first.Given as goal

abbrev pub invariant-loop-i : goal.invariant-loop-i
invariant-loop-i l = l.i ≤ l.n
