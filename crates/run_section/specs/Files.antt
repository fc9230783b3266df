-- Document 01, "Cleaning" and "Archive records": the output file of a group, by its section in the tables.
use Rattle.std.specs.Prelude.{List, map, ℕ, ◌+◌, ◌-◌, ◌*◌, drop}
use Rattle.std.proofs.Math.Option.{Option}
use Rattle.lists.specs.Lists.{part}
use Rattle.columns.specs.Limits.{kinds}
use Rattle.columns.specs.EdgeSet.{cut, set_of}
use Rattle.columns.specs.Building.{Built, rows_within}
use Rattle.cover.specs.Chains.{Link}
use Rattle.archive_bytes.specs.Bytes.{several}
use Rattle.archive.specs.File.{Unresolved, Root, CoverColumns, no_references, File}
use Rattle.cleaning.specs.Sections.{unerased_row}
use Rattle.run_state.specs.declared.Groups.{Groups}
use Rattle.run_state.specs.View.{facts_at}
use Rattle.run_section.specs.declared.Counts.{Counts}
use Rattle.run_section.specs.declared.Section.{Section}
use Rattle.run_section.specs.declared.Span.{Span}
use Rattle.run_section.specs.Tables.{field, unresolved_in, root_in, link_in}

-- how many records a span has
abbrev pub many : Span → ℕ
many s = s.to - s.from

-- the lists of a section's rows
abbrev pub lists_at : Section → List ℕ → List ℕ → List (List ℕ)
lists_at s offsets targets = part (kinds * s.rows.from) (kinds * many s.rows) (cut offsets targets)

-- its records
abbrev pub tags_at : Section → List ℕ → List ℕ
tags_at s rows = several 4 (field 1) (many s.rows) (drop (s.rows.from * 4) rows)

abbrev pub unresolved_at : Section → List ℕ → List Unresolved
unresolved_at s unresolved = several 3 unresolved_in (many s.unresolved) (drop (s.unresolved.from * 3) unresolved)

-- roots count from the section's first row
abbrev pub roots_at : Section → List ℕ → List Root
roots_at s roots = map (λ r. record { row = r.row - s.rows.from; handle = r.handle }) (several 2 root_in (many s.roots) (drop (s.roots.from * 2) roots))

abbrev pub links_at : Section → List ℕ → List Link
links_at s links = map (λ l. l.link) (several 5 link_in (many s.links) (drop (s.links.from * 5) links))

-- the sets of the rows from row a up to row b: all parents; the children below their end; those from it on
unfoldable pub sets_over : Counts → ℕ → ℕ → List ℕ → List ℕ → List ℕ → List ℕ → Built
sets_over z a b offsets targets starts kids = record {
  forward = set_of kinds (z.start + a) (rows_within kinds 0 (z.start + z.rows) a (b - a) offsets targets);
  reverse = set_of kinds (z.start + a) (rows_within kinds 0 (z.start + b) a (b - a) starts kids);
  inbound = set_of kinds (z.start + a) (rows_within kinds (z.start + b) (z.start + z.rows) a (b - a) starts kids);
}

-- a section's sets
abbrev pub sets_at : Counts → Section → List ℕ → List ℕ → List ℕ → List ℕ → Built
sets_at z s = sets_over z s.rows.from s.rows.to

unfoldable pub file_at : Counts → List ℕ → Groups → ℕ → Section → List ℕ → List ℕ → List ℕ → Built → Option CoverColumns → File
file_at z subject groups g s rows unresolved roots sets cover = record {
  first = z.start + s.rows.from;
  group = g;
  subject = subject;
  depth = (facts_at groups g).depth;
  forward = sets.forward;
  reverse = sets.reverse;
  inbound = sets.inbound;
  rows = map unerased_row (tags_at s rows);
  unresolved = unresolved_at s unresolved;
  roots = roots_at s roots;
  cover = cover;
  references = no_references (tags_at s rows);
}
