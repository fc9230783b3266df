-- Columns side by side as tables: of each the first n numbers stand at one place of the first n records. A column's numbers fit their bits.
use Rattle.std.specs.Prelude.{◌≡◌, List, ℕ, ◌+◌, ◌*◌, ◌^◌, ◌<◌, length, get_or, take}
use Rattle.lists.specs.Lists.{Each}
use Rattle.columns.specs.Limits.{end64}
use Rattle.archive_bytes.specs.Bytes.{several}
use Rattle.run_state.specs.declared.Sheet.{Sheet}
use Rattle.run_section.specs.declared.Counts.{Counts}
use Rattle.run_section.specs.Tables.{field}

-- number k of each of the n records of width w is the column's, and below the bound
pub record Column (w k n bound : ℕ) (column table : List ℕ) : Type 0 where
  pub is : several w (field k) n table ≡ take n column
  pub narrow : Each (λ x. x < bound) (several w (field k) n table)

-- the same of a column that was put into a table: of each record the other numbers are what they were
pub record ColumnPut (w k n bound : ℕ) (column before after : List ℕ) : Type 0 where
  pub put : Column w k n bound column after
  pub others : (i j : ℕ) → j < w → (j ≡ k → ⊥) → get_or after (i * w + j) 0 ≡ get_or before (i * w + j) 0
  pub as_long : length after ≡ length before

-- ── the tables ───────────────────────────────────────────────────────────────────────────────

pub record RowsLaid (n : ℕ) (groups tags chains seqs table : List ℕ) : Type 0 where
  pub group : Column 4 0 n 256 groups table
  pub tag : Column 4 1 n end64 tags table
  pub chain : Column 4 2 n (2 ^ 32) chains table
  pub seq : Column 4 3 n (2 ^ 32) seqs table
  pub long : length table ≡ 4096

pub record UnresolvedLaid (n : ℕ) (children kinds handles table : List ℕ) : Type 0 where
  pub child : Column 3 0 n end64 children table
  pub kind : Column 3 1 n 256 kinds table
  pub handle : Column 3 2 n (2 ^ 32) handles table
  pub long : length table ≡ 3072

pub record RootsLaid (n : ℕ) (rows handles table : List ℕ) : Type 0 where
  pub row : Column 2 0 n end64 rows table
  pub handle : Column 2 1 n end64 handles table
  pub long : length table ≡ 2048

pub record LinksLaid (n : ℕ) (groups from_chains from_seqs to_chains to_seqs table : List ℕ) : Type 0 where
  pub group : Column 5 0 n 256 groups table
  pub from_chain : Column 5 1 n (2 ^ 32) from_chains table
  pub from_seq : Column 5 2 n (2 ^ 32) from_seqs table
  pub to_chain : Column 5 3 n (2 ^ 32) to_chains table
  pub to_seq : Column 5 4 n (2 ^ 32) to_seqs table
  pub long : length table ≡ 5120

-- ── a run's survivors ────────────────────────────────────────────────────────────────────────

abbrev pub counts_of : Sheet → Counts
counts_of s = record { start = s.start; rows = s.rows.count; unresolved = s.unresolved.count; roots = s.roots.count; links = s.links.count }

pub record SheetLaid (s : Sheet) (rows unresolved roots links : List ℕ) : Type 0 where
  pub rows_laid : RowsLaid s.rows.count s.rows.groups s.rows.tags s.rows.chains s.rows.seqs rows
  pub unresolved_laid : UnresolvedLaid s.unresolved.count s.unresolved.children s.unresolved.kinds s.unresolved.handles unresolved
  pub roots_laid : RootsLaid s.roots.count s.roots.rows s.roots.handles roots
  pub links_laid : LinksLaid s.links.count s.links.groups s.links.from.chains s.links.from.seqs s.links.to.chains s.links.to.seqs links
