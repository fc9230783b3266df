-- Document 01, "Cleaning": the section of a group in every table.
use Rattle.std.specs.Prelude.{◌≡◌, true, List, ℕ, ◌+◌, ◌*◌, ◌≤◌, ◌<◌, length}
use Rattle.lists.specs.Order.{not_falling}
use Rattle.cleaning.specs.Sections.{place}
use Rattle.run_section.specs.declared.Counts.{Counts}
use Rattle.run_section.specs.declared.Section.{Section}
use Rattle.run_section.specs.declared.Span.{Span}
use Rattle.run_section.specs.Tables.{keys}

-- a table of n records of a width, by keys that do not fall
pub record SortedTable (w n : ℕ) (table : List ℕ) : Type 0 where
  pub wide : 0 < w
  pub there : n * w ≤ length table
  pub level : not_falling (keys w n table) ≡ true

-- the tables of survivors
pub record Sorted (z : Counts) (rows unresolved roots links : List ℕ) : Type 0 where
  pub by_group : SortedTable 4 z.rows rows
  pub by_child : SortedTable 3 z.unresolved unresolved
  pub by_row : SortedTable 2 z.roots roots
  pub by_link : SortedTable 5 z.links links

-- where the records stand whose keys are from low up to high
pub record SpanAt (w n : ℕ) (table : List ℕ) (low high : ℕ) (s : Span) : Type 0 where
  pub from_is : s.from ≡ place low (keys w n table)
  pub to_is : s.to ≡ place high (keys w n table)
  pub rises : s.from ≤ s.to
  pub within : s.to ≤ n

-- rows and links go by their group, unresolved references by their child, roots by their row
pub record SectionAt (z : Counts) (g : ℕ) (rows unresolved roots links : List ℕ) (s : Section) : Type 0 where
  pub rows_span : SpanAt 4 z.rows rows g (g + 1) s.rows
  pub unresolved_at : SpanAt 3 z.unresolved unresolved (z.start + s.rows.from) (z.start + s.rows.to) s.unresolved
  pub roots_at : SpanAt 2 z.roots roots s.rows.from s.rows.to s.roots
  pub links_span : SpanAt 5 z.links links g (g + 1) s.links
