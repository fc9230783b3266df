-- The words end within the text, and each turn of the loop goes one byte on.
use Rattle.std.proofs.Common.{length, ◌-◌, ◌≤◌}
use Rattle.messages.proofs.failures.words_end.Given as goal

abbrev pub invariant-loop-i : goal.invariant-loop-i
invariant-loop-i l = l.i ≤ length l.text
