-- Whether a column can be loaded or stored.
use Rattle.std.specs.Prelude.{List, [], ◌∷◌, ℕ, ◌*◌, ltb, length}
use Rattle.std.proofs.Math.Option.{Option}
use Rattle.columns.specs.Refusal.{refuse, first_of}
use Rattle.columns.specs.declared.refusal.Refusal.{Refusal}
use Rattle.columns.specs.declared.refusal.Refusal.TheVariants.{RecordBroken, SliceShort}
use Rattle.archive_cursor.specs.Short.{cut_off, no_room}

-- 23 where n numbers of w bytes are not all there from place p on, then 41 where the slice has fewer than n places for them
unfoldable pub load_rules : {A : Type 0} → ℕ → ℕ → List ℕ → ℕ → List A → Option Refusal
load_rules w n l p out = first_of (cut_off (n * w) l p ∷ refuse SliceShort (ltb (length out) n) ∷ [])

-- 23 where a column has fewer than n numbers, then 41 where there is no room for their bytes from place p on
unfoldable pub store_rules : {A : Type 0} → ℕ → ℕ → List A → List ℕ → ℕ → Option Refusal
store_rules w n xs l p = first_of (refuse RecordBroken (ltb (length xs) n) ∷ no_room (n * w) l p ∷ [])
