-- The records of a file are as long as its counts say.
use Rattle.std.proofs.Common.{◌≡◌, ℕ, ◌+◌, Bool, true, false, List, [], length, refl, ap, arith, length-append}
use mathlib.Core.Option.{Option, none, some}
use Rattle.lists.specs.Lists.{flat}
use Rattle.lists.proofs.Cut.{length-blocks}
use Rattle.columns.specs.EdgeSet.{EdgeSet}
use Rattle.archive.specs.File.{Row, Unresolved, Root, CoverColumns, File}
use Rattle.archive.specs.Encode.{record_bytes, head_bytes, edges_bytes, row_bytes, unresolved_bytes, root_bytes, cover_bytes, counted_bytes, cover_record, references_record, file_bytes}
use Rattle.archive.proofs.Lengths.{length-record, length-head, length-set, length-sets, length-counted, length-links, length-cover, wide_row, wide-unresolved, wide-root}
use Rattle.archive_store.specs.records.Sizes.{head_size, rows_size, unresolved_size, roots_size, cover_body}
use Rattle.archive_store.specs.sizes.FileSize.{offsets_of, edges_size, cover_record_size, file_size}

-- ── what the counts count ────────────────────────────────────────────────────────────────────

-- a set of that many rows and edges
pub record SetHas (rows edges : ℕ) (s : EdgeSet) : Type 0 where
  pub offsets : length s.offsets ≡ offsets_of rows
  pub deltas : length s.deltas ≡ edges

-- a cover of that many rows, ranges and links
pub record CoverCounts (rows ranges links : ℕ) (c : CoverColumns) : Type 0 where
  pub chains : length c.labels.chains ≡ rows
  pub seqs : length c.labels.seqs ≡ rows
  pub spans : length c.ranges ≡ ranges
  pub from_chains : length c.links.from_chains ≡ links
  pub from_seqs : length c.links.from_seqs ≡ links
  pub to_chains : length c.links.to_chains ≡ links
  pub to_seqs : length c.links.to_seqs ≡ links

-- no cover, or such a one
pub data CoverHas : Bool → ℕ → ℕ → ℕ → Option CoverColumns → Type 0 where
  bare : {rows ranges links : ℕ} → CoverHas false rows ranges links none
  covered : {rows ranges links : ℕ} {c : CoverColumns} → CoverCounts rows ranges links c → CoverHas true rows ranges links (some c)

-- the record of a cover, where there is one
module _ (there : Bool) (rows ranges links : ℕ) where
  pub with-cover : {n : ℕ} → there ≡ true → n ≡ cover_body rows rows ranges links links links links → 6 + n ≡ cover_record_size there rows ranges links
  unfolding cover_record_size
  with-cover h e = rw (h, e)

  pub without-cover : there ≡ false → 0 ≡ cover_record_size there rows ranges links
  unfolding cover_record_size
  without-cover h = rw h

-- ── records ──────────────────────────────────────────────────────────────────────────────────

pub length-rows : (rs : List Row) → length (record_bytes 3 (flat row_bytes rs)) ≡ rows_size (length rs)
length-rows rs = omega (arith, length-record 3 (flat row_bytes rs), length-blocks row_bytes 9 wide_row rs)

pub length-unresolved : (us : List Unresolved) → length (record_bytes 4 (counted_bytes unresolved_bytes us)) ≡ unresolved_size (length us)
length-unresolved us = omega (arith, length-record 4 (counted_bytes unresolved_bytes us), length-counted unresolved_bytes 13 wide-unresolved us)

pub length-roots : (rs : List Root) → length (record_bytes 5 (counted_bytes root_bytes rs)) ≡ roots_size (length rs)
length-roots rs = omega (arith, length-record 5 (counted_bytes root_bytes rs), length-counted root_bytes 16 wide-root rs)

pub length-cover_record : {there : Bool} {rows ranges links : ℕ} {c : Option CoverColumns} → CoverHas there rows ranges links c
    → length (cover_record c) ≡ cover_record_size there rows ranges links
unfolding cover_record_size
length-cover_record bare = refl
length-cover_record (covered {c = c} h) = omega (arith, length-record 6 (cover_bytes c), length-cover c, length-links c.links)

module _ (f : File) where
  pub length-head_record : length (record_bytes 1 (head_bytes f)) ≡ head_size (length f.subject)
  unfolding head_bytes
  length-head_record =
      omega (arith, length-record 1 (head_bytes f), length-head f.first (length f.rows) f.group f.subject f.depth)

  pub length-edges : {rows forward reverse inbound : ℕ} → SetHas rows forward f.forward → SetHas rows reverse f.reverse → SetHas rows inbound f.inbound
      → length (record_bytes 2 (edges_bytes f)) ≡ edges_size rows forward reverse inbound
  unfolding edges_bytes
  length-edges a b c =
      omega (
        arith,
        length-record 2 (edges_bytes f),
        length-sets f.forward f.reverse f.inbound,
        length-set f.forward,
        length-set f.reverse,
        length-set f.inbound,
      )

  -- the six records together, of a file that has no seventh
  pub length-file : {rows forward reverse inbound ranges links : ℕ} {there : Bool} → length f.rows ≡ rows
      → SetHas rows forward f.forward → SetHas rows reverse f.reverse → SetHas rows inbound f.inbound → CoverHas there rows ranges links f.cover
      → references_record f.references ≡ []
      → length (file_bytes f) ≡ file_size (length f.subject) rows forward reverse inbound (length f.unresolved) (length f.roots) there ranges links
  unfolding file_bytes
  length-file n a b c d e =
      simp length-append
      (omega (
        arith,
        length-head_record,
        length-edges a b c,
        length-rows f.rows,
        length-unresolved f.unresolved,
        length-roots f.roots,
        length-cover_record d,
        ap length e,
      ))
