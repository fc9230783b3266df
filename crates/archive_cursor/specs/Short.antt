-- Document 01, 23 and 41: bytes that are not there to be read are a broken record, and bytes that are not there to be written a slice that is too short.
use Rattle.std.specs.Prelude.{List, ℕ, ◌+◌, ltb, length}
use Rattle.std.proofs.Math.Option.{Option}
use Rattle.columns.specs.Refusal.{refuse}
use Rattle.columns.specs.declared.refusal.Refusal.{Refusal}
use Rattle.columns.specs.declared.refusal.Refusal.TheVariants.{RecordBroken, SliceShort}

-- 23: fewer than n bytes are left from place p on, and n are read
unfoldable pub cut_off : ℕ → List ℕ → ℕ → Option Refusal
cut_off n l p = refuse RecordBroken (ltb (length l) (p + n))

-- 41: fewer than n bytes are left from place p on, and n are written
unfoldable pub no_room : ℕ → List ℕ → ℕ → Option Refusal
no_room n l p = refuse SliceShort (ltb (length l) (p + n))
