-- Document 01, "Edge columns": a set of edges as columns, the slots that its offsets cut out, and the side on which its targets lie.
use Rattle.std.specs.Prelude.{Bool, false, ◌&&◌, List, [], ◌∷◌, map, ℕ, zero, suc, ◌+◌, ◌*◌, ◌/◌, ltb, leb, eqb, ℤ, pos, negsuc, ◌-ℤ◌, length}
use Rattle.std.proofs.Math.Seq.{slice}
use Rattle.lists.specs.Lists.{joined, starts}
use Rattle.lists.specs.Order.{climbs_to}
use Rattle.columns.specs.Limits.{end64}

-- a set: its edge count, offsets and deltas. Row r and kind k is slot kinds × r + k; a delta is event minus target
pub record EdgeSet : Type 0 where
  pub count : ℕ
  pub offsets : List ℕ
  pub deltas : List ℤ

-- the number of a set, in the order in which the three are stored
abbrev pub forward : ℕ
forward = 0

abbrev pub reverse : ℕ
reverse = 1

abbrev pub inbound : ℕ
inbound = 2

-- ── 17's form ────────────────────────────────────────────────────────────────────────────────

-- rising or level from `low` to `high`
unfoldable pub from_to : ℕ → ℕ → List ℕ → Bool
from_to low high [] = false
from_to low high (x ∷ xs) = eqb x low && climbs_to high x xs

-- an offset for each slot and one more, rising or level from 0 to the number of entries
unfoldable pub offsets_form : (K : ℕ) → ℕ → ℕ → List ℕ → Bool
offsets_form K rows count offsets = eqb (length offsets) (K * rows + 1) && from_to 0 count offsets

-- ── slots ────────────────────────────────────────────────────────────────────────────────────

-- the lists that offsets cut out of a column: from each offset up to the next
unfoldable pub cut_from : {A : Type 0} → ℕ → List ℕ → List A → List (List A)
cut_from a [] column = []
cut_from a (b ∷ bs) column = slice a b column ∷ cut_from b bs column

unfoldable pub cut : {A : Type 0} → List ℕ → List A → List (List A)
cut [] column = []
cut (a ∷ bs) column = cut_from a bs column

-- the event of a slot of a granule that starts at `first`
abbrev pub event_of : (K : ℕ) → ℕ → ℕ → ℕ
event_of K first slot = first + slot / K

-- ── deltas and targets ───────────────────────────────────────────────────────────────────────

-- the delta that names a target: event minus target
unfoldable pub delta_of : ℕ → ℕ → ℤ
delta_of event target = pos event -ℤ pos target

-- whether there is such a number: at least 0 and at most 2^64 − 1
unfoldable pub is_number : ℤ → Bool
is_number (pos n) = ltb n end64
is_number (negsuc n) = false

-- that number
unfoldable pub to_number : ℤ → ℕ
to_number (pos n) = n
to_number (negsuc n) = 0

-- the target that a delta of an event names: event minus delta
unfoldable pub target_of : ℕ → ℤ → ℕ
target_of event delta = to_number (pos event -ℤ delta)

-- the side of a set: forward targets lie below their event, reverse ones above it and below the file's end, inbound ones at or past that end
unfoldable pub allowed : ℕ → ℕ → ℕ → ℕ → Bool
allowed zero end event target = ltb target event
allowed (suc zero) end event target = ltb event target && ltb target end
allowed (suc (suc set)) end event target = leb end target

-- a delta of a set that names a number on the set's side
unfoldable pub sound : ℕ → ℕ → ℕ → ℤ → Bool
sound set end event delta = is_number (pos event -ℤ delta) && allowed set end event (target_of event delta)

-- ── a set made of lists ──────────────────────────────────────────────────────────────────────

-- the deltas of the slots from `slot` on, each of the slot's event
unfoldable pub deltas_from : (K : ℕ) → ℕ → ℕ → List (List ℕ) → List (List ℤ)
deltas_from K first slot [] = []
deltas_from K first slot (ts ∷ lists) = map (delta_of (event_of K first slot)) ts ∷ deltas_from K first (suc slot) lists

-- the set that holds the lists of a granule's slots
unfoldable pub set_of : (K : ℕ) → ℕ → List (List ℕ) → EdgeSet
set_of K first lists = record { count = length (joined lists); offsets = starts 0 lists; deltas = joined (deltas_from K first 0 lists) }
