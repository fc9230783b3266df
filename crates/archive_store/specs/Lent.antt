-- Document 01, "Archive records", and document 02, L1: what lent columns and numbers say of a file's records.
use Rattle.std.specs.Prelude.{◌≡◌, ℕ, ◌+◌, ◌*◌, Bool, true, cond, not, List, [], ◌∷◌, ◌++◌, length, ℤ, ◌==◌}
use Rattle.std.proofs.Math.Option.{Option, none, some}
use Rattle.columns.specs.EdgeSet.{EdgeSet, from_to, cut}
use Rattle.columns.specs.Building.{Depth}
use Rattle.cover.specs.Chains.{Range}
use Rattle.archive.specs.Bytes.{bytes_of}
use Rattle.archive.specs.File.{Row, Unresolved, Root, CoverColumns, Reference}
use Rattle.archive.specs.Encode.{head_fields}
use Rattle.cover.specs.Cover.{LinkColumns}
use Rattle.archive_store.specs.declared.heads.HeadOut.{HeadOut}

-- ── columns side by side ─────────────────────────────────────────────────────────────────────

-- what f makes of two columns, place by place, up to the end of the shorter
unfoldable pub zip2 : {A : Type 0} → (ℕ → ℕ → A) → List ℕ → List ℕ → List A
zip2 f [] ys = []
zip2 f (x ∷ xs) [] = []
zip2 f (x ∷ xs) (y ∷ ys) = f x y ∷ zip2 f xs ys

-- what f makes of three
unfoldable pub zip3 : {A : Type 0} → (ℕ → ℕ → ℕ → A) → List ℕ → List ℕ → List ℕ → List A
zip3 f [] ys zs = []
zip3 f (x ∷ xs) [] zs = []
zip3 f (x ∷ xs) (y ∷ ys) [] = []
zip3 f (x ∷ xs) (y ∷ ys) (z ∷ zs) = f x y z ∷ zip3 f xs ys zs

-- ── records ──────────────────────────────────────────────────────────────────────────────────

-- what stands before a body of n bytes: the length of what follows, version 1, the kind
abbrev pub start_bytes : ℕ → ℕ → List ℕ
start_bytes kind n = bytes_of 4 (2 + n) ++ ((1 ∷ []) ++ (kind ∷ []))

-- 1: a depth that is known or not
abbrev pub depth_from : Bool → ℕ → ℕ → Option Depth
depth_from known least greatest = cond known (some (record { least = least; greatest = greatest })) none

unfoldable pub head_from : HeadOut → List ℕ → List ℕ
head_from h s = head_fields h.first h.rows h.group s (depth_from h.known h.least h.greatest)

-- 2: as many edges as deltas
abbrev pub set_from : List ℕ → List ℤ → EdgeSet
set_from offsets deltas = record { count = length deltas; offsets = offsets; deltas = deltas }

abbrev pub set_size : ℕ → ℕ → ℕ
set_size offsets deltas = 4 + (8 * offsets + 8 * deltas)

-- 3: any flag but 0 says that a row is erased
unfoldable pub row_from : ℕ → ℕ → Row
row_from flag tag = record { erased = not (flag == 0); tag = tag }

-- 4
unfoldable pub unresolved_from : ℕ → ℕ → ℕ → Unresolved
unresolved_from child kind handle = record { child = child; kind = kind; handle = handle }

-- 5
unfoldable pub root_from : ℕ → ℕ → Root
root_from row handle = record { row = row; handle = handle }

-- 6: labels, ranges and links
unfoldable pub range_from : ℕ → ℕ → ℕ → Range
range_from chain least greatest = record { chain = chain; least = least; greatest = greatest }

abbrev pub links_from : List ℕ → List ℕ → List ℕ → List ℕ → LinkColumns
links_from a b c d = record { from_chains = a; from_seqs = b; to_chains = c; to_seqs = d }

abbrev pub cover_from : List ℕ → List ℕ → List Range → LinkColumns → CoverColumns
cover_from chains seqs ranges links = record { labels = record { chains = chains; seqs = seqs }; ranges = ranges; links = links }

abbrev pub links_size : ℕ → ℕ → ℕ → ℕ → ℕ
links_size a b c d = 4 + (4 * a + (4 * b + (4 * c + 4 * d)))

abbrev pub cover_size : ℕ → ℕ → ℕ → ℕ → ℕ
cover_size chains seqs ranges links = 4 * chains + (4 * seqs + (4 + (12 * ranges + links)))

-- 7: references in three columns, which offsets cut into rows: from each offset up to the next are a row's
unfoldable pub reference_from : ℕ → ℕ → ℕ → Reference
reference_from kind space target = record { kind = kind; space = space; target = target }

unfoldable pub cited_from : List ℕ → List ℕ → List ℕ → List ℕ → List (List Reference)
cited_from offsets kinds spaces targets = cut offsets (zip3 reference_from kinds spaces targets)

-- columns of one length, and an offset for each row and one more, rising or level from 0 to that length
pub record Cited (offsets kinds spaces targets : List ℕ) : Type 0 where
  pub space_count : length spaces ≡ length kinds
  pub target_count : length targets ≡ length kinds
  pub climbs : from_to 0 (length kinds) offsets ≡ true
