-- Survivors that are ready to be written: their tables in order and within the limits, no parent at or above its event, none twice in a list.
use Rattle.std.specs.Prelude.{◌≡◌, true, List, ℕ, ◌+◌, ◌≤◌, ◌<◌, length}
use Rattle.std.proofs.Math.Option.{none}
use Rattle.columns.specs.Limits.{kinds, end64, max_records, max_numbers, max_groups, max_subject}
use Rattle.columns.specs.EdgeSet.{offsets_form, cut}
use Rattle.columns.specs.Building.{slot_rules, reverse_lists}
use Rattle.cleaning.specs.Sections.{Tidy}
use Rattle.run_state.specs.declared.Groups.{Groups}
use Rattle.run_section.specs.declared.Counts.{Counts}
use Rattle.run_section.specs.Tables.{sheet_of}
use Rattle.run_section.specs.Sections.{Sorted}

-- counts within the limits
pub record Few (z : Counts) (subject : List ℕ) (groups : Groups) (targets : List ℕ) : Type 0 where
  pub rows : z.rows ≤ max_records
  pub unresolved : z.unresolved ≤ max_records
  pub roots : z.roots ≤ max_records
  pub links : z.links ≤ max_records
  pub parents : length targets ≤ max_numbers
  pub groups_count : groups.count ≤ max_groups
  pub short : length subject ≤ max_subject
  pub end : z.start + z.rows < end64

pub record Ready (z : Counts) (subject : List ℕ) (groups : Groups) (rows unresolved roots links offsets targets : List ℕ) : Type 0 where
  pub few : Few z subject groups targets
  pub sorted : Sorted z rows unresolved roots links
  pub form : offsets_form kinds z.rows (length targets) offsets ≡ true
  pub once : slot_rules kinds z.start 0 (cut offsets targets) ≡ none
  pub tidy : Tidy kinds (sheet_of z subject groups rows unresolved roots links offsets targets)

-- the children of every row, in a table of lists of their own
pub record Children (z : Counts) (offsets targets starts kids : List ℕ) : Type 0 where
  pub are : cut starts kids ≡ reverse_lists kinds z.start z.rows (cut offsets targets)
  pub form : offsets_form kinds z.rows (length kids) starts ≡ true
  pub few : length kids ≤ max_numbers
