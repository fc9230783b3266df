-- Document 01, "Archive records": the file of a group in two halves, by its section in the tables; and what a function needs to know to write each.
use Rattle.std.specs.Prelude.{◌≡◌, Bool, cond, List, [], ◌++◌, map, ℕ, ◌+◌, ◌-◌, ◌*◌, ◌≤◌, ◌<◌, length, drop}
use Rattle.std.proofs.lemmas.List.Edits.{sets}
use Rattle.lists.specs.Lists.{flat}
use Rattle.columns.specs.Limits.{end64, max_records, max_groups, max_subject}
use Rattle.columns.specs.Building.{Built}
use Rattle.archive_bytes.specs.Bytes.{several, Wide}
use Rattle.archive.specs.Encode.{record_bytes, head_fields, row_bytes, unresolved_bytes, root_bytes, counted_bytes, cover_bytes}
use Rattle.cleaning.specs.Sections.{unerased_row}
use Rattle.run_section.specs.declared.Counts.{Counts}
use Rattle.run_section.specs.declared.Section.{Section}
use Rattle.run_section.specs.declared.Span.{Span}
use Rattle.run_section.specs.declared.rules.Known.{Known}
use Rattle.run_section.specs.declared.facts.Facts.{Facts}
use Rattle.run_section.specs.Tables.{field}
use Rattle.run_section.specs.Rules.{depth_in, Lists}
use Rattle.run_section.specs.Files.{many, tags_at, unresolved_at, roots_at}
use Rattle.run_records.specs.Front.{built_bytes}
use Rattle.run_records.specs.Stored.{cover_in}
use Rattle.run_records.specs.Narrow.{NarrowUnresolved, LabelTable, RangeTable, LinkTable}

-- bytes were written from a place on, up to another
pub record Wrote (bytes was is : List ℕ) (at end : ℕ) : Type 0 where
  pub stored : is ≡ sets was at bytes
  pub ends : end ≡ at + length bytes

-- ── bytes ────────────────────────────────────────────────────────────────────────────────────

-- 1 and 2
unfoldable pub front_at : Counts → ℕ → Section → Known → List ℕ → Built → List ℕ
front_at z g s k subject built =
    record_bytes 1 (head_fields (z.start + s.rows.from) (many s.rows) g subject (depth_in k)) ++ record_bytes 2 (built_bytes built)

-- 3, 4 and 5
unfoldable pub middle_at : Section → List ℕ → List ℕ → List ℕ → List ℕ
middle_at s rows unresolved roots =
    record_bytes 3 (flat row_bytes (map unerased_row (tags_at s rows)))
    ++ (record_bytes 4 (counted_bytes unresolved_bytes (unresolved_at s unresolved)) ++ record_bytes 5 (counted_bytes root_bytes (roots_at s roots)))

-- 6, where the group has a cover, whose ranges are those from one record of their table up to another
unfoldable pub last_at : Bool → Section → ℕ → ℕ → List ℕ → List ℕ → List ℕ → List ℕ
last_at covered s from to rows ranges links =
    cond covered
    (record_bytes 6 (cover_bytes (cover_in (many s.rows) (drop (s.rows.from * 4) rows) (to - from) (drop (from * 3) ranges) (many s.links) (drop (s.links.from * 5) links)))) []

-- 3 to 6
unfoldable pub back_at : Section → Facts → List ℕ → List ℕ → List ℕ → List ℕ → List ℕ → List ℕ
back_at s f rows unresolved roots links ranges = middle_at s rows unresolved roots ++ last_at f.known.covered s f.from f.to rows ranges links

-- ── needs ────────────────────────────────────────────────────────────────────────────────────

-- the records of a span are there
pub record SpanIn (w : ℕ) (s : Span) (table : List ℕ) : Type 0 where
  pub rises : s.from ≤ s.to
  pub few : s.to ≤ max_records
  pub there : s.to * w ≤ length table

pub record FrontReady (z : Counts) (g : ℕ) (s : Section) (subject offsets targets starts kids : List ℕ) : Type 0 where
  pub group : g < max_groups
  pub short : length subject ≤ max_subject
  pub few : z.rows ≤ max_records
  pub end : z.start + z.rows < end64
  pub rises : s.rows.from ≤ s.rows.to
  pub within : s.rows.to ≤ z.rows
  pub lists : Lists z.rows offsets targets starts kids

pub record MiddleReady (s : Section) (rows unresolved roots : List ℕ) : Type 0 where
  pub rows_in : SpanIn 4 s.rows rows
  pub unresolved_in : SpanIn 3 s.unresolved unresolved
  pub roots_in : SpanIn 2 s.roots roots
  pub narrow : NarrowUnresolved (many s.unresolved) (drop (s.unresolved.from * 3) unresolved)

pub record LastReady (s : Section) (from to : ℕ) (rows ranges links : List ℕ) : Type 0 where
  pub rows_in : SpanIn 4 s.rows rows
  pub links_in : SpanIn 5 s.links links
  pub rises : from ≤ to
  pub few : to ≤ max_records
  pub labels : LabelTable (many s.rows) (s.rows.from * 4) rows
  pub ranges_in : RangeTable (to - from) (from * 3) ranges
  pub linked : LinkTable (many s.links) (s.links.from * 5) links

-- what is stored in fewer than 8 bytes has no more, over all records; and there is the table of ranges
pub record Stores (z : Counts) (rows unresolved links ranges : List ℕ) : Type 0 where
  pub chains : Wide 4 (several 4 (field 2) z.rows rows)
  pub seqs : Wide 4 (several 4 (field 3) z.rows rows)
  pub kinds : Wide 1 (several 3 (field 1) z.unresolved unresolved)
  pub handles : Wide 4 (several 3 (field 2) z.unresolved unresolved)
  pub from_chains : Wide 4 (several 5 (field 1) z.links links)
  pub from_seqs : Wide 4 (several 5 (field 2) z.links links)
  pub to_chains : Wide 4 (several 5 (field 3) z.links links)
  pub to_seqs : Wide 4 (several 5 (field 4) z.links links)
  pub ranges_there : 3072 ≤ length ranges
