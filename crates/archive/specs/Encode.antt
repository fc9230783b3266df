-- Document 01, "Archive records", and document 02, L1: the bytes of a file's seven records.
use Rattle.std.specs.Prelude.{Bool, true, false, cond, List, [], ◌∷◌, ◌++◌, map, ℕ, ◌+◌, length}
use Rattle.std.proofs.Math.Option.{Option, none, some}
use Rattle.lists.specs.Lists.{flat}
use Rattle.columns.specs.EdgeSet.{EdgeSet}
use Rattle.columns.specs.Building.{Depth}
use Rattle.cover.specs.Chains.{Range}
use Rattle.cover.specs.Cover.{LinkColumns}
use Rattle.archive.specs.Bytes.{bytes_of, unsigned_of}
use Rattle.archive.specs.File.{Row, Unresolved, Root, CoverColumns, Reference, any_reference, File}

-- a record: the length of what follows, version 1, the kind, the body
unfoldable pub record_bytes : ℕ → List ℕ → List ℕ
record_bytes kind b = bytes_of 4 (2 + length b) ++ ((1 ∷ []) ++ ((kind ∷ []) ++ b))

-- a column of numbers of w bytes
abbrev pub column_bytes : ℕ → List ℕ → List ℕ
column_bytes w xs = flat (bytes_of w) xs

-- ── bodies ───────────────────────────────────────────────────────────────────────────────────

unfoldable pub depth_bytes : Option Depth → List ℕ
depth_bytes none = (0 ∷ []) ++ (bytes_of 8 0 ++ bytes_of 8 0)
depth_bytes (some d) = (1 ∷ []) ++ (bytes_of 8 d.least ++ bytes_of 8 d.greatest)

-- first number, number of rows, group, subject and depth
abbrev pub head_fields : ℕ → ℕ → ℕ → List ℕ → Option Depth → List ℕ
head_fields first rows group subject depth =
    bytes_of 8 first ++ (bytes_of 4 rows ++ ((group ∷ []) ++ ((length subject ∷ []) ++ (subject ++ depth_bytes depth))))

unfoldable pub head_bytes : File → List ℕ
head_bytes f = head_fields f.first (length f.rows) f.group f.subject f.depth

unfoldable pub set_bytes : EdgeSet → List ℕ
set_bytes s = bytes_of 4 s.count ++ (column_bytes 8 s.offsets ++ column_bytes 8 (map unsigned_of s.deltas))

-- forward, reverse, inbound
abbrev pub sets_bytes : EdgeSet → EdgeSet → EdgeSet → List ℕ
sets_bytes a b c = set_bytes a ++ (set_bytes b ++ set_bytes c)

unfoldable pub edges_bytes : File → List ℕ
edges_bytes f = sets_bytes f.forward f.reverse f.inbound

abbrev pub flag_of : Bool → ℕ
flag_of true = 1
flag_of false = 0

unfoldable pub row_bytes : Row → List ℕ
row_bytes r = (flag_of r.erased ∷ []) ++ bytes_of 8 r.tag

unfoldable pub unresolved_bytes : Unresolved → List ℕ
unresolved_bytes u = bytes_of 8 u.child ++ ((u.kind ∷ []) ++ bytes_of 4 u.handle)

unfoldable pub root_bytes : Root → List ℕ
root_bytes r = bytes_of 8 r.row ++ bytes_of 8 r.handle

unfoldable pub range_bytes : Range → List ℕ
range_bytes r = bytes_of 4 r.chain ++ (bytes_of 4 r.least ++ bytes_of 4 r.greatest)

unfoldable pub links_bytes : LinkColumns → List ℕ
links_bytes c =
    bytes_of 4 (length c.from_chains)
    ++ (column_bytes 4 c.from_chains ++ (column_bytes 4 c.from_seqs ++ (column_bytes 4 c.to_chains ++ column_bytes 4 c.to_seqs)))

unfoldable pub cover_bytes : CoverColumns → List ℕ
cover_bytes c =
    column_bytes 4 c.labels.chains ++ (column_bytes 4 c.labels.seqs
    ++ (bytes_of 4 (length c.ranges) ++ (flat range_bytes c.ranges ++ links_bytes c.links)))

-- a count, then as many things
unfoldable pub counted_bytes : {A : Type 0} → (A → List ℕ) → List A → List ℕ
counted_bytes f xs = bytes_of 4 (length xs) ++ flat f xs

unfoldable pub reference_bytes : Reference → List ℕ
reference_bytes r = (r.kind ∷ []) ++ ((r.space ∷ []) ++ bytes_of 8 r.target)

-- row by row a count and as many references
unfoldable pub references_bytes : List (List Reference) → List ℕ
references_bytes rss = flat (counted_bytes reference_bytes) rss

-- ── files ────────────────────────────────────────────────────────────────────────────────────

abbrev pub cover_record : Option CoverColumns → List ℕ
cover_record none = []
cover_record (some c) = record_bytes 6 (cover_bytes c)

-- absent where there are none
abbrev pub references_record : List (List Reference) → List ℕ
references_record rss = cond (any_reference rss) (record_bytes 7 (references_bytes rss)) []

unfoldable pub file_bytes : File → List ℕ
file_bytes f =
    record_bytes 1 (head_bytes f)
    ++ (record_bytes 2 (edges_bytes f)
    ++ (record_bytes 3 (flat row_bytes f.rows)
    ++ (record_bytes 4 (counted_bytes unresolved_bytes f.unresolved)
    ++ (record_bytes 5 (counted_bytes root_bytes f.roots)
    ++ (cover_record f.cover
    ++ references_record f.references)))))

-- the bytes of files, one after the other
unfoldable pub encode : List File → List ℕ
encode fs = flat file_bytes fs
