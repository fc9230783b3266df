-- Document 01, "Archive records" and 23, and document 02, L1: what an archive's bytes say. Every rule of 23 is a test here.
use Rattle.std.specs.Prelude.{Bool, cond, ◌&&◌, ◌||◌, List, [], ◌∷◌, map, ℕ, zero, suc, ◌+◌, ◌*◌, leb, eqb, length, get_or}
use Rattle.std.proofs.Math.Option.{Option, none, some}
use Rattle.lists.specs.Lists.{all}
use Rattle.lists.specs.Order.{rising, not_falling}
use Rattle.columns.specs.EdgeSet.{EdgeSet}
use Rattle.columns.specs.Building.{Depth}
use Rattle.cover.specs.Chains.{Range}
use Rattle.cover.specs.Cover.{LinkColumns}
use Rattle.archive.specs.Bytes.{be, signed_of}
use Rattle.archive.specs.Reader.{Parsed, Reader, ◌>>=◌, return, fail, byte, number, bytes, table, numbers, checked, counted, ahead, unless_end, record_of, optionally}
use Rattle.archive.specs.File.{Row, Unresolved, Root, CoverColumns, Reference, any_reference, no_references, File}

-- ── 1 file ───────────────────────────────────────────────────────────────────────────────────

-- what record 1 holds
pub record Head : Type 0 where
  pub first : ℕ
  pub rows : ℕ
  pub group : ℕ
  pub subject : List ℕ
  pub depth : Option Depth

-- the depth flag is 1, or it is 0 and so are both depths
unfoldable pub depth_flag_ok : ℕ → ℕ → ℕ → Bool
depth_flag_ok flag least greatest = eqb flag 1 || (eqb flag 0 && (eqb least 0 && eqb greatest 0))

abbrev pub depth_read : ℕ → ℕ → ℕ → Option Depth
depth_read flag least greatest = cond (eqb flag 1) (some (record { least = least; greatest = greatest })) none

unfoldable pub head_end : ℕ → ℕ → ℕ → List ℕ → Reader Head
head_end first rows group subject = do
  flag ← byte
  least ← number 8
  greatest ← number 8
  checked (depth_flag_ok flag least greatest) (record { first = first; rows = rows; group = group; subject = subject; depth = depth_read flag least greatest })

unfoldable pub head : Reader Head
head = do
  first ← number 8
  rows ← number 4
  group ← byte
  n ← byte
  subject ← bytes n
  head_end first rows group subject

-- ── 2 edges ──────────────────────────────────────────────────────────────────────────────────

-- one set: its count, its offsets, its deltas
unfoldable pub edge_set : (K : ℕ) → ℕ → Reader EdgeSet
edge_set K rows = do
  n ← number 4
  offsets ← numbers 8 (K * rows + 1)
  deltas ← numbers 8 n
  return (record { count = n; offsets = offsets; deltas = map signed_of deltas })

pub record Sets : Type 0 where
  pub forward : EdgeSet
  pub reverse : EdgeSet
  pub inbound : EdgeSet

unfoldable pub sets : (K : ℕ) → ℕ → Reader Sets
sets K rows = do
  f ← edge_set K rows
  r ← edge_set K rows
  i ← edge_set K rows
  return (record { forward = f; reverse = r; inbound = i })

-- ── 3 rows ───────────────────────────────────────────────────────────────────────────────────

-- the row at the front of the bytes: its flag, then its tag
unfoldable pub row_at : List ℕ → Row
row_at l = record { erased = eqb (get_or l 0 0) 1; tag = be 8 l 1 }

-- an erased flag is 0 or 1
unfoldable pub rows : ℕ → Reader (List Row)
rows n = do
  flags ← ahead (table 9 (λ l. get_or l 0 0) n)
  rs ← table 9 row_at n
  checked (all (λ flag. leb flag 1) flags) rs

-- ── 4 unresolved ─────────────────────────────────────────────────────────────────────────────

unfoldable pub unresolved_at : List ℕ → Unresolved
unresolved_at l = record { child = be 8 l 0; kind = get_or l 8 0; handle = be 4 l 9 }

-- children do not fall
unfoldable pub unresolved : Reader (List Unresolved)
unresolved = counted 13 unresolved_at (λ us. not_falling (map (λ u. u.child) us))

-- ── 5 roots ──────────────────────────────────────────────────────────────────────────────────

unfoldable pub root_at : List ℕ → Root
root_at l = record { row = be 8 l 0; handle = be 8 l 8 }

-- rows rise
unfoldable pub roots : Reader (List Root)
roots = counted 16 root_at (λ rs. rising (map (λ r. r.row) rs))

-- ── 6 cover ──────────────────────────────────────────────────────────────────────────────────

unfoldable pub range_at : List ℕ → Range
range_at l = record { chain = be 4 l 0; least = be 4 l 4; greatest = be 4 l 8 }

unfoldable pub links : Reader LinkColumns
links = do
  n ← number 4
  a ← numbers 4 n
  b ← numbers 4 n
  c ← numbers 4 n
  d ← numbers 4 n
  return (record { from_chains = a; from_seqs = b; to_chains = c; to_seqs = d })

unfoldable pub cover : ℕ → Reader CoverColumns
cover n = do
  chains ← numbers 4 n
  seqs ← numbers 4 n
  m ← number 4
  ranges ← table 12 range_at m
  ls ← links
  return (record { labels = record { chains = chains; seqs = seqs }; ranges = ranges; links = ls })

-- ── 7 references ─────────────────────────────────────────────────────────────────────────────

unfoldable pub reference_at : List ℕ → Reference
reference_at l = record { kind = get_or l 0 0; space = get_or l 1 0; target = be 8 l 2 }

-- kinds: prev 0, auth 1, link 2, parent 3, related 4, root 5; spaces: event id 0, external 1, protocol id 2, sequence 3
unfoldable pub reference_ok : Reference → Bool
reference_ok r = leb r.kind 5 && leb r.space 3

-- how many references are of a kind
unfoldable pub of_kind : ℕ → List Reference → ℕ
of_kind k [] = 0
of_kind k (r ∷ rs) = cond (eqb r.kind k) 1 0 + of_kind k rs

-- a row's references: of a kind and a space that there are, and at most one parent and one root
unfoldable pub references_ok : List Reference → Bool
references_ok rs = all reference_ok rs && (leb (of_kind 3 rs) 1 && leb (of_kind 5 rs) 1)

-- a row's: a count, and as many references
abbrev pub row_references : Reader (List Reference)
row_references = counted 10 reference_at references_ok

-- row by row
unfoldable pub rows_references : ℕ → Reader (List (List Reference))
rows_references zero = return []
rows_references (suc n) = do
  rs ← row_references
  rest ← rows_references n
  return (rs ∷ rest)

-- a record of none is broken
unfoldable pub references : ℕ → Reader (List (List Reference))
references n = do
  rss ← rows_references n
  checked (any_reference rss) rss

-- the references of a file's rows: none where there is no record
unfoldable pub references_of : List Row → Option (List (List Reference)) → List (List Reference)
references_of rs none = no_references rs
references_of rs (some rss) = rss

-- ── files ────────────────────────────────────────────────────────────────────────────────────

-- the records of a file, in order
unfoldable pub file : (K : ℕ) → Reader File
file K = do
  h ← record_of 1 head
  s ← record_of 2 (sets K h.rows)
  rs ← record_of 3 (rows h.rows)
  us ← record_of 4 unresolved
  ts ← record_of 5 roots
  c ← optionally 6 (cover h.rows)
  xs ← optionally 7 (references h.rows)
  return (record {
    first = h.first;
    group = h.group;
    subject = h.subject;
    depth = h.depth;
    forward = s.forward;
    reverse = s.reverse;
    inbound = s.inbound;
    rows = rs;
    unresolved = us;
    roots = ts;
    cover = c;
    references = references_of rs xs;
  })

-- files to the end of the bytes, at most n
unfoldable pub files : (K : ℕ) → ℕ → Reader (List File)
files K zero = unless_end [] fail
files K (suc n) = unless_end [] do
  f ← file K
  fs ← files K n
  return (f ∷ fs)

-- the files of an archive. No file is of less than one byte, so the number of bytes is enough
unfoldable pub parse : (K : ℕ) → List ℕ → Parsed (List File)
parse K l = files K (length l) l 0
