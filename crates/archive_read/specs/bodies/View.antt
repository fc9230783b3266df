-- What the reader's answers say of the bytes that they were read from: a body is the bytes between two places, and the numbers of an answer say which
-- parts of it are a file's columns.
use Rattle.std.specs.Prelude.{Bool, true, false, cond, List, [], ◌∷◌, map, ◌≡◌, ℕ, zero, suc, ◌+◌, ◌-◌, ◌*◌, ◌≤◌, length, take, drop, None, Some, Option}
use Rattle.lists.specs.Lists.{sum}
use Rattle.columns.specs.Limits.{kinds}
use Rattle.columns.specs.EdgeSet.{EdgeSet}
use Rattle.archive_bytes.specs.Bytes.{column}
use Rattle.archive.specs.Bytes.{be, signed_of, several}
use Rattle.archive.specs.Reader.{Parsed, broken, got}
use Rattle.archive.specs.File.{Row, Unresolved, Root, CoverColumns, Reference}
use Rattle.archive.specs.Parse.{Head, depth_read, Sets, row_at, unresolved_at, root_at, range_at, reference_at}
use Rattle.archive_read.specs.declared.bodies.HeadAt.{HeadAt}
use Rattle.archive_read.specs.declared.bodies.SetAt.{SetAt}
use Rattle.archive_read.specs.declared.bodies.EdgesAt.{EdgesAt}
use Rattle.archive_read.specs.declared.bodies.CoverAt.{CoverAt}

-- ── bodies ───────────────────────────────────────────────────────────────────────────────────

-- the bytes from place a up to place e
abbrev pub body_in : List ℕ → ℕ → ℕ → List ℕ
body_in l a e = take (e - a) (drop a l)

-- ── what stands in a body ────────────────────────────────────────────────────────────────────

-- 1: the subject starts at place 14
unfoldable pub head_in : List ℕ → HeadAt → Head
head_in b h =
    record { first = h.first; rows = h.rows; group = h.group; subject = take h.subject (drop 14 b); depth = depth_read h.flag h.least h.greatest }

abbrev pub head_of : List ℕ → Option HeadAt → Parsed Head
head_of b None = broken
head_of b (Some h) = got (head_in b h) (length b)

-- the subject is there
abbrev pub HeadInside : List ℕ → Option HeadAt → Type 0
HeadInside b None = Unit {0}
HeadInside b (Some h) = 14 + h.subject ≤ length b

-- 2: a set of n deltas that starts at place p
abbrev pub set_end : ℕ → ℕ → ℕ → ℕ
set_end rows p n = p + 4 + (kinds * rows + 1) * 8 + n * 8

unfoldable pub set_in : List ℕ → ℕ → ℕ → ℕ → EdgeSet
set_in b rows p n = record { count = n; offsets = column 8 (kinds * rows + 1) b (p + 4); deltas = map signed_of (column 8 n b (p + 4 + (kinds * rows + 1) * 8)) }

abbrev pub set_of : List ℕ → ℕ → ℕ → Option SetAt → Parsed EdgeSet
set_of b rows p None = broken
set_of b rows p (Some s) = got (set_in b rows p s.count) s.end

abbrev pub SetInside : List ℕ → ℕ → ℕ → Option SetAt → Type 0
SetInside b rows p None = Unit {0}
SetInside b rows p (Some s) = (set_end rows p s.count ≤ s.end) × (s.end ≤ length b)

unfoldable pub sets_in : List ℕ → ℕ → EdgesAt → Sets
sets_in b rows s = record { forward = set_in b rows 0 s.forwards; reverse = set_in b rows s.reverse s.reverses; inbound = set_in b rows s.inbound s.inbounds }

abbrev pub edges_of : List ℕ → ℕ → Option EdgesAt → Parsed Sets
edges_of b rows None = broken
edges_of b rows (Some s) = got (sets_in b rows s) (length b)

-- every set ends inside the body
abbrev pub EdgesInside : List ℕ → ℕ → Option EdgesAt → Type 0
EdgesInside b rows None = Unit {0}
EdgesInside b rows (Some s) =
    (set_end rows 0 s.forwards ≤ length b) × (set_end rows s.reverse s.reverses ≤ length b) × (set_end rows s.inbound s.inbounds ≤ length b)

-- 3
abbrev pub rows_of : List ℕ → ℕ → Bool → Parsed (List Row)
rows_of b n r = cond r (got (several 9 row_at n b) (length b)) broken

abbrev pub RowsInside : List ℕ → ℕ → Bool → Type 0
RowsInside b n false = Unit {0}
RowsInside b n true = n * 9 ≤ length b

-- 4, 5: a count and as many things
abbrev pub unresolved_of : List ℕ → Option ℕ → Parsed (List Unresolved)
unresolved_of b None = broken
unresolved_of b (Some n) = got (several 13 unresolved_at n (drop 4 b)) (length b)

abbrev pub roots_of : List ℕ → Option ℕ → Parsed (List Root)
roots_of b None = broken
roots_of b (Some n) = got (several 16 root_at n (drop 4 b)) (length b)

-- so many things of w bytes each
abbrev pub ListInside : ℕ → List ℕ → Option ℕ → Type 0
ListInside w b None = Unit {0}
ListInside w b (Some n) = (n ≤ length b) × (4 + n * w ≤ length b)

-- 6: the place of the number of links
abbrev pub links_place : ℕ → ℕ → ℕ
links_place rows m = rows * 4 + rows * 4 + 4 + m * 12

-- the place after m ranges and k links
abbrev pub cover_end : ℕ → ℕ → ℕ → ℕ
cover_end rows m k = links_place rows m + 4 + k * 4 + k * 4 + k * 4 + k * 4

unfoldable pub cover_in : List ℕ → ℕ → CoverAt → CoverColumns
cover_in b rows c = record {
  labels = record { chains = column 4 rows b 0; seqs = column 4 rows b (rows * 4) };
  ranges = several 12 range_at c.ranges (drop (rows * 4 + rows * 4 + 4) b);
  links = record {
    from_chains = column 4 c.links b (links_place rows c.ranges + 4);
    from_seqs = column 4 c.links b (links_place rows c.ranges + 4 + c.links * 4);
    to_chains = column 4 c.links b (links_place rows c.ranges + 4 + c.links * 4 + c.links * 4);
    to_seqs = column 4 c.links b (links_place rows c.ranges + 4 + c.links * 4 + c.links * 4 + c.links * 4);
  };
}

abbrev pub cover_of : List ℕ → ℕ → Option CoverAt → Parsed CoverColumns
cover_of b rows None = broken
cover_of b rows (Some c) = got (cover_in b rows c) (length b)

abbrev pub CoverInside : List ℕ → ℕ → Option CoverAt → Type 0
CoverInside b rows None = Unit {0}
CoverInside b rows (Some c) = cover_end rows c.ranges c.links ≤ length b

-- 7: the references of a row that stands at place p
abbrev pub row_cited : List ℕ → ℕ → Option ℕ → Parsed (List Reference)
row_cited b p None = broken
row_cited b p (Some n) = got (several 10 reference_at n (drop (p + 4) b)) (p + 4 + n * 10)

abbrev pub RowInside : List ℕ → ℕ → Option ℕ → Type 0
RowInside b p None = Unit {0}
RowInside b p (Some n) = p + 4 + n * 10 ≤ length b

-- the references of n rows from the front of the bytes on
unfoldable pub references_from : ℕ → List ℕ → List (List Reference)
references_from zero b = []
references_from (suc n) b = several 10 reference_at (be 4 b 0) (drop 4 b) ∷ references_from n (drop (4 + be 4 b 0 * 10) b)

abbrev pub cited_of : List ℕ → ℕ → Option ℕ → Parsed (List (List Reference))
cited_of b rows None = broken
cited_of b rows (Some n) = got (references_from rows b) (length b)

-- so many references in all, which are there
abbrev pub CitedInside : List ℕ → ℕ → Option ℕ → Type 0
CitedInside b rows None = Unit {0}
CitedInside b rows (Some n) = (n ≤ length b) × (n ≡ sum length (references_from rows b))
