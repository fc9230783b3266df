-- Document 01, "Archive records": what measuring the file of a section answers.
use Rattle.std.specs.Prelude.{◌≡◌, Bool, ◌&&◌, List, ℕ, ◌+◌, ◌*◌, ◌≤◌, ◌<◌, ltb, length, Err, Ok, Result}
use Rattle.lists.specs.Lists.{all}
use Rattle.columns.specs.Limits.{kinds, end64, max_records}
use Rattle.columns.specs.Building.{Built, depth_ok, build_rules}
use Rattle.columns.specs.Answers.{ruling}
use Rattle.archive.specs.Encode.{file_bytes}
use Rattle.cleaning.specs.Sheet.{Sheet}
use Rattle.cleaning.specs.Sections.{section_graph, section_file}
use Rattle.archive_store.specs.sizes.FileSize.{file_size, max_file_size}
use Rattle.run_section.specs.declared.Counts.{Counts}
use Rattle.run_section.specs.declared.Section.{Section}
use Rattle.run_section.specs.declared.rules.Known.{Known}
use Rattle.run_section.specs.Rules.{kind_fits, depth_in, faults, spans_in}
use Rattle.columns.specs.declared.refusal.Refusal.{Refusal}
use Rattle.run_section.specs.Files.{many, unresolved_at, sets_at}

-- a section lies inside tables that are within the limits
pub record Inside (z : Counts) (s : Section) (unresolved : List ℕ) : Type 0 where
  pub few_rows : z.rows ≤ max_records
  pub end : z.start + z.rows < end64
  pub rows_rise : s.rows.from ≤ s.rows.to
  pub rows_within : s.rows.to ≤ z.rows
  pub unresolved_rise : s.unresolved.from ≤ s.unresolved.to
  pub unresolved_there : s.unresolved.to * 3 ≤ length unresolved
  pub unresolved_few : s.unresolved.to ≤ max_records
  pub roots_rise : s.roots.from ≤ s.roots.to
  pub roots_few : s.roots.to ≤ max_records
  pub links_rise : s.links.from ≤ s.links.to
  pub links_few : s.links.to ≤ max_records

-- the first rule that the group breaks, by the tests of its section
unfoldable pub faults_at : Counts → ℕ → Known → Bool → Section → List ℕ → List ℕ → List ℕ → List ℕ → List ℕ → Result (Unit {0}) Refusal
faults_at z size k rises s unresolved offsets targets starts kids =
    ruling (faults (ltb 0 size) (all kind_fits (unresolved_at s unresolved)) (depth_ok (depth_in k)) rises
    (spans_in z.start s.rows.from (many s.rows) offsets targets && spans_in z.start s.rows.from (many s.rows) starts kids))

-- the size of its file
unfoldable pub size_by : ℕ → Section → Built → Bool → ℕ → ℕ
size_by subject s b covered ranges =
    file_size subject (many s.rows) b.forward.count b.reverse.count b.inbound.count (many s.unresolved) (many s.roots) covered ranges (many s.links)

-- the rule that a measuring tells of, if it tells of one
abbrev pub ruled : Result ℕ Refusal → Result (Unit {0}) Refusal
ruled (Ok n) = Ok tt
ruled (Err x) = Err x

pub record SectionMeasured (z : Counts) (size : ℕ) (k : Known) (rises : Bool) (ranges : ℕ) (s : Section) (unresolved offsets targets starts kids : List ℕ) (r : Result ℕ Refusal) : Type 0 where
  pub rules : ruled r ≡ faults_at z size k rises s unresolved offsets targets starts kids
  pub size_is : {n : ℕ} → r ≡ Ok n → n ≡ size_by size s (sets_at z s offsets targets starts kids) k.covered ranges
  pub few : {n : ℕ} → r ≡ Ok n → n ≤ max_file_size

-- the first of building's rules that group g breaks; where there is none, how long its file is
pub record MeasuredGroup (s : Sheet) (g : ℕ) (r : Result ℕ Refusal) : Type 0 where
  pub rules : ruled r ≡ ruling (build_rules kinds (section_graph kinds s g))
  pub length_is : {n : ℕ} → r ≡ Ok n → n ≡ length (file_bytes (section_file kinds s g))
  pub few : {n : ℕ} → r ≡ Ok n → n ≤ max_file_size
