-- Document 01, "Archive records": the files that have bytes. Every number fits its field, and what 23 asks of an order holds.
use Rattle.std.specs.Prelude.{true, List, map, ◌≡◌, ℕ, ◌+◌, ◌*◌, ◌<◌, ◌^◌, length}
use Rattle.std.proofs.Math.Option.{Option, none, some}
use Rattle.std.specs.Int.{w64}
use Rattle.std.proofs.Common.{SFits}
use Rattle.lists.specs.Lists.{Each, flat}
use Rattle.lists.specs.Order.{rising, not_falling}
use Rattle.columns.specs.EdgeSet.{EdgeSet}
use Rattle.columns.specs.Building.{Depth}
use Rattle.cover.specs.Chains.{Range}
use Rattle.cover.specs.Cover.{LinkColumns}
use Rattle.archive.specs.File.{Unresolved, Root, CoverColumns, Reference, any_reference, File}
use Rattle.archive.specs.Parse.{references_ok}
use Rattle.archive.specs.Encode.{edges_bytes, row_bytes, unresolved_bytes, root_bytes, counted_bytes, cover_bytes, references_bytes}
-- numbers of w bytes
pub use Rattle.archive_bytes.specs.Bytes.{Wide}

-- a body whose record has a length of 4 bytes
abbrev pub Short : List ℕ → Type 0
Short b = 2 + length b < 256 ^ 4

abbrev pub DepthFits : Option Depth → Type 0
DepthFits none = Unit {0}
DepthFits (some d) = (d.least < 256 ^ 8) × (d.greatest < 256 ^ 8)

pub record SetFits (K : ℕ) (rows : ℕ) (s : EdgeSet) : Type 0 where
  pub slots : length s.offsets ≡ K * rows + 1
  pub counted : s.count ≡ length s.deltas
  pub count : s.count < 256 ^ 4
  pub offsets : Wide 8 s.offsets
  pub deltas : Each (λ d. SFits w64 d) s.deltas

abbrev pub UnresolvedFits : Unresolved → Type 0
UnresolvedFits u = (u.child < 256 ^ 8) × (u.kind < 256) × (u.handle < 256 ^ 4)

abbrev pub RootFits : Root → Type 0
RootFits r = (r.row < 256 ^ 8) × (r.handle < 256 ^ 8)

abbrev pub RangeFits : Range → Type 0
RangeFits r = (r.chain < 256 ^ 4) × (r.least < 256 ^ 4) × (r.greatest < 256 ^ 4)

pub record LinksFit (c : LinkColumns) : Type 0 where
  pub count : length c.from_chains < 256 ^ 4
  pub second : length c.from_seqs ≡ length c.from_chains
  pub third : length c.to_chains ≡ length c.from_chains
  pub fourth : length c.to_seqs ≡ length c.from_chains
  pub from_chains : Wide 4 c.from_chains
  pub from_seqs : Wide 4 c.from_seqs
  pub to_chains : Wide 4 c.to_chains
  pub to_seqs : Wide 4 c.to_seqs

pub record CoverFits (rows : ℕ) (c : CoverColumns) : Type 0 where
  pub chain_count : length c.labels.chains ≡ rows
  pub seq_count : length c.labels.seqs ≡ rows
  pub chains : Wide 4 c.labels.chains
  pub seqs : Wide 4 c.labels.seqs
  pub range_count : length c.ranges < 256 ^ 4
  pub ranges : Each RangeFits c.ranges
  pub links : LinksFit c.links
  pub short : Short (cover_bytes c)

abbrev pub CoverFitsIn : ℕ → Option CoverColumns → Type 0
CoverFitsIn rows none = Unit {0}
CoverFitsIn rows (some c) = CoverFits rows c

-- a row's references; kinds and spaces are bytes, being those that there are
pub record RowReferencesFit (rs : List Reference) : Type 0 where
  pub count : length rs < 256 ^ 4
  pub targets : Each (λ r. r.target < 256 ^ 8) rs
  pub known : references_ok rs ≡ true

pub record ReferencesFit (rows : ℕ) (rss : List (List Reference)) : Type 0 where
  pub row_count : length rss ≡ rows
  pub each : Each RowReferencesFit rss
  pub short : any_reference rss ≡ true → Short (references_bytes rss)

pub record FileFits (K : ℕ) (f : File) : Type 0 where
  pub first : f.first < 256 ^ 8
  pub row_count : length f.rows < 256 ^ 4
  pub group : f.group < 256
  pub subject : length f.subject < 256
  pub subject_bytes : Wide 1 f.subject
  pub depth : DepthFits f.depth
  pub forward : SetFits K (length f.rows) f.forward
  pub reverse : SetFits K (length f.rows) f.reverse
  pub inbound : SetFits K (length f.rows) f.inbound
  pub tags : Each (λ r. r.tag < 256 ^ 8) f.rows
  pub unresolved_count : length f.unresolved < 256 ^ 4
  pub unresolved : Each UnresolvedFits f.unresolved
  pub unresolved_order : not_falling (map (λ u. u.child) f.unresolved) ≡ true
  pub root_count : length f.roots < 256 ^ 4
  pub roots : Each RootFits f.roots
  pub root_order : rising (map (λ r. r.row) f.roots) ≡ true
  pub cover : CoverFitsIn (length f.rows) f.cover
  pub references : ReferencesFit (length f.rows) f.references
  pub edges_short : Short (edges_bytes f)
  pub rows_short : Short (flat row_bytes f.rows)
  pub unresolved_short : Short (counted_bytes unresolved_bytes f.unresolved)
  pub roots_short : Short (counted_bytes root_bytes f.roots)
