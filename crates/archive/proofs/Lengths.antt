-- How many bytes the records of a file have.
use mathlib.Core.Path.{◌≡◌, refl}
use mathlib.Core.List.{List, [], ◌∷◌, ◌++◌, map}
use mathlib.Core.Option.{Option, none, some}
use Prim.Native.Nat.{ℕ, ◌+◌, ◌*◌}
use native.Mathlib.Omega.{arith}
use lib.ListN.{length, length-append, length-map}
use Rattle.lists.specs.Lists.{flat}
use Rattle.lists.proofs.Cut.{length-blocks}
use Rattle.columns.specs.EdgeSet.{EdgeSet}
use Rattle.columns.specs.Building.{Depth}
use Rattle.cover.specs.Chains.{Range}
use Rattle.cover.specs.Cover.{LinkColumns}
use Rattle.archive.specs.Bytes.{bytes_of, unsigned_of}
use Rattle.archive.specs.File.{Row, Unresolved, Root, CoverColumns, File}
use Rattle.archive.specs.Encode.{record_bytes, column_bytes, depth_bytes, head_fields, set_bytes, sets_bytes, row_bytes, unresolved_bytes, root_bytes, range_bytes, links_bytes, cover_bytes, counted_bytes}
use Rattle.archive.proofs.Numbers.{length-bytes_of}

pub length-record : (kind : ℕ) (b : List ℕ) → length (record_bytes kind b) ≡ 6 + length b
unfolding record_bytes
length-record kind b = simp (length-append, length-bytes_of) (omega arith)

pub length-column : (w : ℕ) (xs : List ℕ) → length (column_bytes w xs) ≡ w * length xs
length-column w xs = length-blocks (bytes_of w) w (length-bytes_of w) xs

pub length-counted : {A : Type 0} (f : A → List ℕ) (w : ℕ) → ((x : A) → length (f x) ≡ w) → (xs : List A) → length (counted_bytes f xs) ≡ 4 + w * length xs
unfolding counted_bytes
length-counted f w wide xs = omega (arith, length-append (bytes_of 4 (length xs)) (flat f xs), length-bytes_of 4 (length xs), length-blocks f w wide xs)

-- ── 1 file ───────────────────────────────────────────────────────────────────────────────────

pub length-depth : (d : Option Depth) → length (depth_bytes d) ≡ 17
unfolding depth_bytes
length-depth none = simp (length-append, length-bytes_of)
length-depth (some d) = simp (length-append, length-bytes_of)

pub length-head : (first rows group : ℕ) (subject : List ℕ) (depth : Option Depth) → length (head_fields first rows group subject depth) ≡ 31 + length subject
length-head first rows group subject depth = simp (length-append, length-bytes_of, length-depth) (omega arith)

-- ── 2 edges ──────────────────────────────────────────────────────────────────────────────────

pub length-set : (s : EdgeSet) → length (set_bytes s) ≡ 4 + (8 * length s.offsets + 8 * length s.deltas)
unfolding set_bytes
length-set s =
    simp (length-append, length-bytes_of)
    (omega (arith, length-column 8 s.offsets, length-column 8 (map unsigned_of s.deltas), length-map s.deltas unsigned_of))

pub length-sets : (a b c : EdgeSet) → length (sets_bytes a b c) ≡ length (set_bytes a) + (length (set_bytes b) + length (set_bytes c))
length-sets a b c = simp length-append

-- ── 3 rows, 4 unresolved, 5 roots ────────────────────────────────────────────────────────────

pub wide_row : (r : Row) → length (row_bytes r) ≡ 9
unfolding row_bytes
wide_row r = omega (arith, length-bytes_of 8 r.tag)

pub wide-unresolved : (u : Unresolved) → length (unresolved_bytes u) ≡ 13
unfolding unresolved_bytes
wide-unresolved u =
    omega (arith, length-append (bytes_of 8 u.child) ((u.kind ∷ []) ++ bytes_of 4 u.handle), length-bytes_of 8 u.child, length-bytes_of 4 u.handle)

pub wide-root : (r : Root) → length (root_bytes r) ≡ 16
unfolding root_bytes
wide-root r = omega (arith, length-append (bytes_of 8 r.row) (bytes_of 8 r.handle), length-bytes_of 8 r.row, length-bytes_of 8 r.handle)

-- ── 6 cover ──────────────────────────────────────────────────────────────────────────────────

pub wide-range : (r : Range) → length (range_bytes r) ≡ 12
unfolding range_bytes
wide-range r = simp (length-append, length-bytes_of)

pub length-links : (c : LinkColumns)
    → length (links_bytes c) ≡ 4 + (4 * length c.from_chains + (4 * length c.from_seqs + (4 * length c.to_chains + 4 * length c.to_seqs)))
unfolding links_bytes
length-links c =
    simp (length-append, length-bytes_of)
    (rw (length-column 4 c.from_chains, length-column 4 c.from_seqs, length-column 4 c.to_chains, length-column 4 c.to_seqs))

pub length-cover : (c : CoverColumns)
    → length (cover_bytes c) ≡ 4 * length c.labels.chains + (4 * length c.labels.seqs + (4 + (12 * length c.ranges + length (links_bytes c.links))))
unfolding cover_bytes
length-cover c =
    simp (length-append, length-bytes_of)
    (rw (length-column 4 c.labels.chains, length-column 4 c.labels.seqs, length-blocks range_bytes 12 wide-range c.ranges))
