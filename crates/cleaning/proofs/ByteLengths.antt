-- How many bytes the records of a file have, so that a file within the limits has records of short length.
use mathlib.Core.Path.{◌≡◌}
use mathlib.Core.List.{List}
use Prim.Native.Nat.{ℕ, ◌+◌, ◌*◌, ◌≤◌}
use native.Mathlib.Omega.{arith}
use lib.ListN.{length, length-append}
use Rattle.lists.specs.Lists.{flat}
use Rattle.lists.proofs.Cut.{length-blocks}
use Rattle.columns.specs.Limits.{Served, max_records, max_numbers}
use Rattle.columns.specs.EdgeSet.{EdgeSet}
use Rattle.cover.specs.Cover.{LinkColumns}
use Rattle.archive.specs.File.{Row, Unresolved, Root, CoverColumns, File}
use Rattle.archive.specs.Encode.{edges_bytes, row_bytes, unresolved_bytes, root_bytes, range_bytes, links_bytes, cover_bytes, counted_bytes}
use Rattle.archive.specs.Fits.{Short, LinksFit}
use Rattle.archive.proofs.Numbers.{length-bytes_of}
use Rattle.archive.proofs.Lengths.{length-column, length-counted, wide_row, wide-unresolved, wide-root, length-set, wide-range}

-- ── rows, references, roots ──────────────────────────────────────────────────────────────────

pub short-rows : (rs : List Row) → length rs ≤ max_records → Short (flat row_bytes rs)
short-rows rs l = omega (arith, length-blocks row_bytes 9 wide_row rs)

pub short-unresolved : (us : List Unresolved) → length us ≤ max_records → Short (counted_bytes unresolved_bytes us)
short-unresolved us l = omega (arith, length-counted unresolved_bytes 13 wide-unresolved us)

pub short-roots : (rs : List Root) → length rs ≤ max_records → Short (counted_bytes root_bytes rs)
short-roots rs l = omega (arith, length-counted root_bytes 16 wide-root rs)

-- ── edges ────────────────────────────────────────────────────────────────────────────────────

-- a set of few rows and few entries
abbrev pub FewEdges : (K : ℕ) → EdgeSet → Type 0
FewEdges K s = (length s.offsets ≤ K * max_records + 1) × (length s.deltas ≤ max_numbers)

pub short-edges : (K : ℕ) (served : Served K) (f : File) → FewEdges K f.forward → FewEdges K f.reverse → FewEdges K f.inbound → Short (edges_bytes f)
unfolding edges_bytes
short-edges K served f a b c =
    simp length-append (omega (arith, length-set f.forward, length-set f.reverse, length-set f.inbound))

-- ── covers ───────────────────────────────────────────────────────────────────────────────────

length-links : (c : LinkColumns) → LinksFit c → length (links_bytes c) ≡ 4 + 16 * length c.from_chains
unfolding links_bytes
length-links c h =
    simp (length-append, length-bytes_of)
    (rw (length-column 4 c.from_chains, length-column 4 c.from_seqs, length-column 4 c.to_chains, length-column 4 c.to_seqs, h.second, h.third, h.fourth)
    (four (length c.from_chains)))
  where
    four : (n : ℕ) → 4 + (4 * n + (4 * n + (4 * n + 4 * n))) ≡ 4 + 16 * n
    four n = omega arith

pub short-cover : (c : CoverColumns) → LinksFit c.links → length c.labels.chains ≤ max_records → length c.labels.seqs ≤ max_records
    → length c.ranges ≤ max_records → length c.links.from_chains ≤ max_records → Short (cover_bytes c)
unfolding cover_bytes
short-cover c h a b d e =
    simp (length-append, length-bytes_of)
    (omega (
      arith,
      length-column 4 c.labels.chains,
      length-column 4 c.labels.seqs,
      length-blocks range_bytes 12 wide-range c.ranges,
      length-links c.links h,
    ))
