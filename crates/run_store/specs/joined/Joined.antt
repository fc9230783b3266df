-- What a run holds with a file more, as columns.
use Rattle.std.specs.Prelude.{cond, map, ℕ, ◌+◌, eqb}
use Rattle.std.proofs.Math.Option.{Option, none, some}
use Rattle.std.proofs.lemmas.List.Edits.{sets}
use Rattle.archive.specs.File.{CoverColumns, File}
use Rattle.cleaning.specs.Source.{is_there}
use Rattle.cleaning.specs.Taking.{stored_ranges}
use Rattle.run_store.specs.grow.Column.{bit}
use Rattle.run_store.specs.parts.Grown.{rows_with, labels_with, edges_with, unresolved_with, roots_with, links_with, groups_with, subject_new}
use Rattle.run_state.specs.declared.Rows.{Rows}
use Rattle.run_state.specs.declared.Links.{Links}
use Rattle.run_state.specs.declared.Sheet.{Sheet}
use Rattle.run_state.specs.declared.Held.{Held}

-- the labels of a file's cover, where there is one, from a place on
unfoldable pub labels_more : Rows → ℕ → Option CoverColumns → Rows
labels_more r at none = r
labels_more r at (some c) = labels_with r at c.labels.chains c.labels.seqs

-- the links of a file's cover, where there is one
unfoldable pub links_more : Links → ℕ → Option CoverColumns → Links
links_more l group none = l
links_more l group (some c) = links_with l group c.links.from_chains c.links.from_seqs c.links.to_chains c.links.to_seqs

-- a sheet with a file more, whose depth is stored as a flag and two numbers; the first file brings start and subject
unfoldable pub sheet_more : Sheet → File → ℕ → ℕ → ℕ → Sheet
sheet_more s f flag least greatest = record {
  start = cond (eqb s.groups.count 0) f.first s.start;
  subject = cond (eqb s.groups.count 0) (subject_new s.subject f.subject) s.subject;
  groups = groups_with s.groups f.group flag least greatest (is_there f.cover);
  rows = labels_more (rows_with s.rows f.group f.rows) s.rows.count f.cover;
  edges = edges_with s.edges s.rows.count f.first f.forward;
  unresolved = unresolved_with s.unresolved f.unresolved;
  roots = roots_with s.roots s.rows.count f.roots;
  links = links_more s.links f.group f.cover;
}

unfoldable pub held_more : Held → File → ℕ → ℕ → ℕ → Held
held_more h f flag least greatest = record {
  sheet = sheet_more h.sheet f flag least greatest;
  erased = sets h.erased h.sheet.rows.count (map (λ r. bit r.erased) f.rows);
  reverse = edges_with h.reverse h.sheet.rows.count f.first f.reverse;
  inbound = edges_with h.inbound h.sheet.rows.count f.first f.inbound;
  ranges = h.ranges + stored_ranges f.cover;
}
