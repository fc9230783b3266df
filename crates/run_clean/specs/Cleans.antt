-- Document 01, "Cleaning": an archive taken alone by a fresh run, resolved and written. Each step is made where the one before it is accepted.
use Rattle.std.specs.Prelude.{List, ℕ}
use Rattle.columns.specs.Limits.{kinds}
use Rattle.cleaning.specs.Step.{takes, resolves, Answer, refused, done, wrote, told, counted, printed}
use Rattle.cleaning.specs.Runs.{RunState, fresh_run, run_step}
use Rattle.run.specs.Promises.{written_from}

-- what follows an answer: nothing where it is a refusal
abbrev pub after : Answer → Answer → Answer
after (refused x) more = refused x
after done more = more
after (wrote w) more = more
after (told n) more = more
after (counted n) more = more
after (printed t) more = more

-- resolving, then writing
unfoldable pub resolved_from : RunState → ℕ → Answer
resolved_from s room = let o = run_step kinds s resolves in after o.answer (written_from o.state room)

-- taking, then the others
unfoldable pub cleaned_from : List ℕ → ℕ → Answer
cleaned_from bytes room = let o = run_step kinds fresh_run (takes bytes) in after o.answer (resolved_from o.state room)
