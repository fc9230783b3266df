-- What building's functions hand back: a verdict as the answer of a call, and as the columns that the call was lent.
use Rattle.std.specs.Prelude.{List, ◌++◌, map, ℕ, ◌-◌, length, drop, Err, Ok, Result}
use Rattle.columns.specs.Limits.{records_room}
use Rattle.columns.specs.declared.refusal.Refusal.{Refusal}
use Rattle.columns.specs.Refusal.{Verdict, refused, accepted, Lent}

-- ── lent slices ──────────────────────────────────────────────────────────────────────────────

-- a slice lent for records
abbrev pub records : List ℕ → Lent
records l = record { has = length l; needs = records_room }

-- a lent column after a call: the numbers of the answer in front, nothing past them changed; as it was after a refusal
unfoldable pub over : {A : Type 0} → Verdict (List A) → List A → List A
over (refused r) was = was
over (accepted l) was = l ++ drop (length l) was

-- ── state roots ──────────────────────────────────────────────────────────────────────────────

-- the answer of `state_root_entries`: how many rows there are
unfoldable pub roots_answer : Verdict (List ℕ) → Result ℕ Refusal
roots_answer (refused r) = Err r
roots_answer (accepted l) = Ok (length l)

-- the rows of events of a file that starts at `first`
unfoldable pub rows_of : ℕ → List ℕ → List ℕ
rows_of first events = map (λ event. event - first) events
