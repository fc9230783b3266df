-- Survivors prepared for writing: their tables, the children of every row in a table of lists, and the ranges of all covered groups.
use Rattle.std.specs.Prelude.{◌≡◌, true, List, ℕ, ◌+◌, ◌*◌, ◌≤◌, ◌<◌, length, take}
use Rattle.std.proofs.Math.Option.{none}
use Rattle.columns.specs.Limits.{kinds, end64}
use Rattle.columns.specs.Building.{slot_rules}
use Rattle.run_state.specs.declared.Edges.{Edges}
use Rattle.run_state.specs.declared.Sheet.{Sheet}
use Rattle.run_state.specs.View.{slots_in, sheet_in}
use Rattle.run_state.specs.Valid.{edges_ok}
use Rattle.run_section.specs.declared.Counts.{Counts}
use Rattle.run_section.specs.declared.prepare.Prepared.{Prepared}
use Rattle.run_section.specs.Tables.{sheet_of}
use Rattle.run_section.specs.Laid.{counts_of, SheetLaid}
use Rattle.run_section.specs.Ready.{Ready, Children}
use Rattle.run_section.specs.Covers.{Labelled, CoversAt}

-- the part of each column that is held
abbrev pub offsets_in : Sheet → List ℕ
offsets_in s = take (kinds * s.rows.count + 1) s.edges.offsets

abbrev pub targets_in : Sheet → List ℕ
targets_in s = take s.edges.count s.edges.targets

abbrev pub subject_in : Sheet → List ℕ
subject_in s = take s.subject.length s.subject.bytes

-- how long the lent arrays are
pub record Rooms (starts kids ranges : List ℕ) : Type 0 where
  pub starts_room : length starts ≡ 2049
  pub kids_room : length kids ≡ 4096
  pub ranges_room : length ranges ≡ 3072

-- the tables of a sheet, and the children of its rows
pub record LaidBy (s : Sheet) (rows unresolved roots links starts kids : List ℕ) (r : Prepared) : Type 0 where
  pub counts_are : r.counts ≡ counts_of s
  pub laid : SheetLaid s rows unresolved roots links
  pub sheet_is : sheet_of (counts_of s) (subject_in s) s.groups rows unresolved roots links (offsets_in s) (targets_in s) ≡ sheet_in s
  pub ready : Ready (counts_of s) (subject_in s) s.groups rows unresolved roots links (offsets_in s) (targets_in s)
  pub children : Children (counts_of s) (offsets_in s) (targets_in s) (take (kinds * s.rows.count + 1) starts) (take r.kids kids)
  pub kids_few : r.kids ≤ 4096
  pub long_starts : length starts ≡ 2049
  pub long_kids : length kids ≡ 4096

pub record PreparedBy (s : Sheet) (rows unresolved roots links starts kids ranges : List ℕ) (r : Prepared) : Type 0 where
  pub tables : LaidBy s rows unresolved roots links starts kids r
  pub covers : CoversAt (counts_of s) s.groups rows ranges r.covers
  pub long_ranges : length ranges ≡ 3072

-- ── steps ────────────────────────────────────────────────────────────────────────────────────

-- lists whose children can be told
pub record Turnable (z : Counts) (e : Edges) : Type 0 where
  pub rows_few : z.rows ≤ 1024
  pub end : z.start + z.rows < end64
  pub in_form : edges_ok z.rows e ≡ true
  pub once : slot_rules kinds z.start 0 (slots_in z.rows e) ≡ none

-- the tables of a sheet, ready to be written, and its lists, ready to be turned
pub record TablesReady (s : Sheet) (rows unresolved roots links : List ℕ) : Type 0 where
  pub laid : SheetLaid s rows unresolved roots links
  pub ready : Ready (counts_of s) (subject_in s) s.groups rows unresolved roots links (offsets_in s) (targets_in s)
  pub labelled : Labelled s.rows.count rows
  pub turnable : Turnable (counts_of s) s.edges

-- the first n of the kids are the children
pub record ChildrenPut (z : Counts) (e : Edges) (starts kids : List ℕ) (n : ℕ) : Type 0 where
  pub children : Children z (take (kinds * z.rows + 1) e.offsets) (take e.count e.targets) (take (kinds * z.rows + 1) starts) (take n kids)
  pub few : n ≤ 4096
  pub long_starts : length starts ≡ 2049
  pub long_kids : length kids ≡ 4096
