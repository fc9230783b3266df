-- Document 01, the order of an archive's rules: 23 over the whole archive, its references too, then 42, 43 over the run and the archive together, then file by file. A refused
-- archive is taken in no part.
use Rattle.std.specs.Prelude.{◌≡◌, true, List, [], ◌∷◌, Err, Ok, Result}
use Rattle.std.proofs.Math.Option.{Option, some}
use Rattle.columns.specs.Limits.{kinds}
use Rattle.columns.specs.Refusal.{Verdict, refused, accepted, refuse, first_of}
use Rattle.columns.specs.declared.refusal.Refusal.{Refusal}
use Rattle.columns.specs.declared.refusal.Refusal.TheVariants.{RecordBroken, OverRecords, OverNumbers}
use Rattle.archive.specs.File.{File}
use Rattle.archive.specs.Reader.{Parsed, broken, got}
use Rattle.cleaning.specs.Held as run
use Rattle.cleaning.specs.Held.{records_over, numbers_over, hold_rules}
use Rattle.cleaning.specs.Taking.{carries}
use Rattle.run_state.specs.declared.Held.{Held}
use Rattle.run_state.specs.View.{held_in}
use Rattle.run_state.specs.Valid.{held_ok}
use Rattle.run_state.specs.order.Ordered.{ordered}

-- 23 of references, then 42, then 43
unfoldable pub limits_over : run.Held → List File → Option Refusal
limits_over h fs = first_of (refuse RecordBroken (carries fs) ∷ refuse OverRecords (records_over h fs) ∷ refuse OverNumbers (numbers_over h fs) ∷ [])

-- 23, then 42, 43, then file by file
unfoldable pub archive_rules : run.Held → Parsed (List File) → Option Refusal
archive_rules h broken = some RecordBroken
archive_rules h (got fs end) = hold_rules kinds h fs

-- what a taking hands back: why it is refused, or what is to be held, fit for the next call
abbrev pub TookBy : Verdict run.Held → Result Held Refusal → Type 0
TookBy (refused x) r = r ≡ Err x
TookBy (accepted m) r = (k : Held) × (r ≡ Ok k) × (held_in k ≡ m) × (held_ok k ≡ true) × (ordered k.sheet ≡ true)
