-- What the columns of a run stand for: of each the entries up to its count.
use Rattle.std.specs.Prelude.{Bool, cond, not, List, map, ℕ, ◌+◌, ◌*◌, eqb, get_or, take}
use Rattle.std.proofs.Math.Option.{Option, none, some}
use Rattle.lists.specs.Lists.{up_from}
use Rattle.columns.specs.Limits.{kinds}
use Rattle.columns.specs.EdgeSet.{cut}
use Rattle.columns.specs.Reading.{Label}
use Rattle.archive.specs.File
use Rattle.cleaning.specs.Sheet
use Rattle.cleaning.specs.Held
use Rattle.run_state.specs.declared.Groups.{Groups}
use Rattle.run_state.specs.declared.Rows.{Rows}
use Rattle.run_state.specs.declared.Edges.{Edges}
use Rattle.run_state.specs.declared.Unresolved as records
use Rattle.run_state.specs.declared.Roots.{Roots}
use Rattle.run_state.specs.declared.Links.{Links}
use Rattle.run_state.specs.declared.Sheet as sheets
use Rattle.run_state.specs.declared.Held as holds

-- a flag stands for yes where it is not 0
abbrev pub flagged : ℕ → Bool
flagged f = not (eqb f 0)

-- what stands at the first n places
abbrev pub listed : {A : Type 0} → (ℕ → A) → ℕ → List A
listed f n = map f (up_from 0 n)

-- ── records out of columns ───────────────────────────────────────────────────────────────────

abbrev pub has_cover : Groups → ℕ → Bool
has_cover g i = flagged (get_or g.covered i 0)

unfoldable pub facts_at : Groups → ℕ → Sheet.Facts
facts_at g i = record {
  depth = cond (flagged (get_or g.known i 0)) (some (record { least = get_or g.least i 0; greatest = get_or g.greatest i 0 })) none;
  covered = has_cover g i;
}

-- a row has a label where its group has a cover
unfoldable pub label_at : Groups → Rows → ℕ → Option Label
label_at g r i = cond (has_cover g (get_or r.groups i 0)) (some (record { chain = get_or r.chains i 0; seq = get_or r.seqs i 0 })) none

unfoldable pub unresolved_at : records.Unresolved → ℕ → File.Unresolved
unresolved_at u i = record { child = get_or u.children i 0; kind = get_or u.kinds i 0; handle = get_or u.handles i 0 }

unfoldable pub root_at : Roots → ℕ → File.Root
root_at r i = record { row = get_or r.rows i 0; handle = get_or r.handles i 0 }

unfoldable pub link_at : Links → ℕ → Sheet.GroupLink
link_at l i = record {
  group = get_or l.groups i 0;
  link = record {
    from_chain = get_or l.from.chains i 0;
    from_seq = get_or l.from.seqs i 0;
    to_chain = get_or l.to.chains i 0;
    to_seq = get_or l.to.seqs i 0;
  };
}

-- the lists of n rows
unfoldable pub slots_in : ℕ → Edges → List (List ℕ)
slots_in n e = cut (take (kinds * n + 1) e.offsets) (take e.count e.targets)

-- ── a sheet, and what is held ────────────────────────────────────────────────────────────────

unfoldable pub sheet_in : sheets.Sheet → Sheet.Sheet
sheet_in s = record {
  start = s.start;
  subject = take s.subject.length s.subject.bytes;
  groups = listed (facts_at s.groups) s.groups.count;
  row_groups = take s.rows.count s.rows.groups;
  tags = take s.rows.count s.rows.tags;
  labels = listed (label_at s.groups s.rows) s.rows.count;
  lists = slots_in s.rows.count s.edges;
  unresolved = listed (unresolved_at s.unresolved) s.unresolved.count;
  roots = listed (root_at s.roots) s.roots.count;
  links = listed (link_at s.links) s.links.count;
}

unfoldable pub held_in : holds.Held → Held.Held
held_in h = record {
  sheet = sheet_in h.sheet;
  erased = map flagged (take h.sheet.rows.count h.erased);
  reverse = slots_in h.sheet.rows.count h.reverse;
  inbound = slots_in h.sheet.rows.count h.inbound;
  ranges = h.ranges;
}
