-- Document 01, the worked run: the output files of a sheet, group by group; their lines out of the tables of survivors, and what those take.
use Rattle.std.specs.Prelude.{◌≡◌, true, List, map, ℕ, ◌+◌, ◌-◌, ◌≤◌, ◌<◌, length}
use Rattle.lists.specs.Lists.{flat, sum, up_from}
use Rattle.columns.specs.Limits.{kinds, end64, max_records, max_numbers, max_groups}
use Rattle.columns.specs.EdgeSet.{EdgeSet, offsets_form, set_of}
use Rattle.columns.specs.Building.{Built, rows_within}
use Rattle.archive.specs.File.{File}
use Rattle.cleaning.specs.Listed.{file_size}
use Rattle.cleaning.specs.Sheet.{Sheet}
use Rattle.cleaning.specs.Sections.{section_file}
use Rattle.run_section.specs.declared.Counts.{Counts}
use Rattle.run_section.specs.Sections.{SortedTable}
use Rattle.run_section.specs.Rules.{Lists, spans_in}
use Rattle.run_section.specs.Covers.{start_at}
use Rattle.run_section.specs.Files.{sets_over}
use Rattle.run_text.specs.files.Files.{file_text}

-- the output files, groups rising
unfoldable pub section_files : Sheet → List File
section_files s = map (section_file kinds s) (up_from 0 (length s.groups))

-- ── the rows from row a up to row b ──────────────────────────────────────────────────────────

-- one of their sets: of their lists the numbers from low up to high
abbrev pub set_over : Counts → ℕ → ℕ → ℕ → ℕ → List ℕ → List ℕ → EdgeSet
set_over z a b low high offsets targets = set_of kinds (z.start + a) (rows_within kinds low high a (b - a) offsets targets)

-- the edges of three sets
abbrev pub entries : Built → ℕ
entries s = s.forward.count + (s.reverse.count + s.inbound.count)

-- the lines of their file, which is group g's, and what those take
unfoldable pub lines_over : Counts → ℕ → ℕ → ℕ → List ℕ → List ℕ → List ℕ → List ℕ → List ℕ
lines_over z g a b offsets targets starts kids = file_text g (z.start + a) (b - a) (sets_over z a b offsets targets starts kids)

unfoldable pub need_over : Counts → ℕ → ℕ → List ℕ → List ℕ → List ℕ → List ℕ → ℕ
need_over z a b offsets targets starts kids = file_size (b - a) (entries (sets_over z a b offsets targets starts kids))

-- lists that can be shown: they are in form, and each number is in reach of its event
pub record Shown (z : Counts) (a b : ℕ) (offsets targets : List ℕ) : Type 0 where
  pub few : z.rows ≤ max_records
  pub end : z.start + z.rows < end64
  pub rises : a ≤ b
  pub within : b ≤ z.rows
  pub form : offsets_form kinds z.rows (length targets) offsets ≡ true
  pub numbers : length targets ≤ max_numbers
  pub spans : spans_in z.start a (b - a) offsets targets ≡ true

-- ── all groups ───────────────────────────────────────────────────────────────────────────────

-- of group g, whose rows are found by the table of rows
unfoldable pub lines_at : Counts → List ℕ → List ℕ → List ℕ → List ℕ → List ℕ → ℕ → List ℕ
lines_at z rows offsets targets starts kids g = lines_over z g (start_at z rows g) (start_at z rows (g + 1)) offsets targets starts kids

unfoldable pub need_at : Counts → List ℕ → List ℕ → List ℕ → List ℕ → List ℕ → ℕ → ℕ
need_at z rows offsets targets starts kids g = need_over z (start_at z rows g) (start_at z rows (g + 1)) offsets targets starts kids

-- of the first n groups
unfoldable pub lines_of : Counts → ℕ → List ℕ → List ℕ → List ℕ → List ℕ → List ℕ → List ℕ
lines_of z n rows offsets targets starts kids = flat (lines_at z rows offsets targets starts kids) (up_from 0 n)

unfoldable pub need_of : Counts → ℕ → List ℕ → List ℕ → List ℕ → List ℕ → List ℕ → ℕ
need_of z n rows offsets targets starts kids = sum (need_at z rows offsets targets starts kids) (up_from 0 n)

-- tables within the limits, and in order
pub record Tabled (z : Counts) (n : ℕ) (rows offsets targets starts kids : List ℕ) : Type 0 where
  pub groups : n ≤ max_groups
  pub few : z.rows ≤ max_records
  pub end : z.start + z.rows < end64
  pub sorted : SortedTable 4 z.rows rows
  pub lists : Lists z.rows offsets targets starts kids

-- in every group each number is in reach of its event
pub record Spanned (z : Counts) (n : ℕ) (rows offsets targets starts kids : List ℕ) : Type 0 where
  pub parents : (g : ℕ) → g < n → spans_in z.start (start_at z rows g) (start_at z rows (g + 1) - start_at z rows g) offsets targets ≡ true
  pub children : (g : ℕ) → g < n → spans_in z.start (start_at z rows g) (start_at z rows (g + 1) - start_at z rows g) starts kids ≡ true
