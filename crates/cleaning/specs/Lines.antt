-- Document 01, the worked run: the lines of a listing.
use Rattle.std.specs.Prelude.{cond, List, [], ◌∷◌, ◌++◌, map, ℕ, zero, suc, ◌+◌, ◌/◌, ◌%◌, ltb, ℤ, pos, negsuc, length}
use Rattle.std.proofs.Math.Option.{Option, none, some}
use Rattle.lists.specs.Lists.{flat, up_from}
use Rattle.lists.specs.Text.{text}
use Rattle.columns.specs.Refusal.{number_of}
use Rattle.columns.specs.EdgeSet.{EdgeSet}
use Rattle.columns.specs.declared.refusal.Refusal.{Refusal}
use Rattle.archive.specs.File.{File}
use Rattle.cleaning.specs.Archive.{Archive}
use Rattle.cleaning.specs.Cleaning.{new_number, reparented}

-- ── text as bytes ────────────────────────────────────────────────────────────────────────────

-- the digits of a number; it bounds their number itself
unfoldable pub digits_from : ℕ → ℕ → List ℕ
digits_from zero n = []
digits_from (suc bound) n = let more = digits_from bound (n / 10) ++ ((48 + n % 10) ∷ []) in cond (ltb n 10) ((48 + n) ∷ []) more

unfoldable pub decimal : ℕ → List ℕ
decimal n = digits_from (suc n) n

unfoldable pub signed : ℤ → List ℕ
signed (pos n) = decimal n
signed (negsuc n) = 45 ∷ decimal (suc n)

-- words with a space between, and a newline
unfoldable pub line : List ℕ → List (List ℕ) → List ℕ
line word words = word ++ (flat (λ w. 32 ∷ w) words ++ (10 ∷ []))

-- ── the lines ────────────────────────────────────────────────────────────────────────────────

-- a refusal is one line
unfoldable pub refused_line : Refusal → List ℕ
refused_line r = line (text "refused") (decimal (number_of r) ∷ [])

abbrev pub new_word : Option ℕ → List ℕ
new_word none = text "-"
new_word (some n) = decimal n

-- the old number, then the new one or a dash
unfoldable pub map_line : Archive → ℕ → List ℕ
map_line A p = line (text "map") (decimal p ∷ new_word (new_number A p) ∷ [])

-- a set of the whole file
unfoldable pub set_lines : List ℕ → EdgeSet → List ℕ
set_lines name s = line (text "offsets") (name ∷ map decimal s.offsets) ++ line (text "deltas") (name ∷ map signed s.deltas)

-- group, first number, rows; then its sets
unfoldable pub file_lines : File → List ℕ
file_lines f =
    line (text "file") (decimal f.group ∷ decimal f.first ∷ decimal (length f.rows) ∷ [])
    ++ (set_lines (text "forward") f.forward ++ (set_lines (text "reverse") f.reverse ++ set_lines (text "inbound") f.inbound))

-- a map line for each event, the output files, and at the end how many survivors were reparented
unfoldable pub listing_text : Archive → List File → List ℕ
listing_text A fs =
    flat (map_line A) (up_from A.start (length A.events)) ++ (flat file_lines fs ++ line (text "reparented") (decimal (reparented A) ∷ []))
