-- Document 01, the worked run: an archive taken alone by a fresh run, resolved and listed. Each step is made where the one before it is accepted, and
-- 41 for the room comes last, as it does for the bytes of an archive.
use Rattle.std.specs.Prelude.{cond, List, [], ℕ, ltb, length}
use Rattle.columns.specs.Limits.{kinds, max_listed}
use Rattle.columns.specs.declared.refusal.Refusal.TheVariants.{SliceShort}
use Rattle.cleaning.specs.Lines.{refused_line}
use Rattle.cleaning.specs.Step.{takes, resolves, Answer, refused, done, wrote, told, counted, printed}
use Rattle.cleaning.specs.Runs.{RunState, fresh_run, run_step}
use Rattle.run.specs.Promises.{listed_from}
use Rattle.run_clean.specs.Cleans.{after}

-- resolving, then listing
unfoldable pub resolved_list : RunState → ℕ → Answer
resolved_list s room = let o = run_step kinds s resolves in after o.answer (listed_from o.state room)

-- taking, then the others
unfoldable pub taken_list : List ℕ → ℕ → Answer
taken_list bytes room = let o = run_step kinds fresh_run (takes bytes) in after o.answer (resolved_list o.state room)

-- over 65,536 bytes are 41 whatever they hold
unfoldable pub listing_from : List ℕ → ℕ → Answer
listing_from bytes room = cond (ltb max_listed (length bytes)) (refused SliceShort) (taken_list bytes room)

-- what the listing program prints of an answer: a refusal is its line
abbrev pub said : Answer → List ℕ
said (refused x) = refused_line x
said done = []
said (wrote w) = []
said (told n) = []
said (counted n) = []
said (printed t) = t.bytes
