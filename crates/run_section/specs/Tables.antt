-- Survivors as tables: what the records of each stand for. A table is a column of numbers, its records have one width, and of those the first n are there.
use Rattle.std.specs.Prelude.{cond, List, ℕ, get_or}
use Rattle.std.proofs.Math.Option.{Option, none, some}
use Rattle.columns.specs.EdgeSet.{cut}
use Rattle.columns.specs.Reading.{Label}
use Rattle.archive_bytes.specs.Bytes.{several}
use Rattle.archive.specs.File.{Unresolved, Root}
use Rattle.cleaning.specs.Sheet.{GroupLink, Sheet}
use Rattle.run_state.specs.declared.Groups.{Groups}
use Rattle.run_state.specs.View.{listed, has_cover, facts_at}
use Rattle.run_section.specs.declared.Counts.{Counts}

-- a number of a record, by its place in it
abbrev pub field : ℕ → List ℕ → ℕ
field i r = get_or r i 0

-- the keys of n records: the first number of each
unfoldable pub keys : ℕ → ℕ → List ℕ → List ℕ
keys w n table = several w (field 0) n table

-- ── records ──────────────────────────────────────────────────────────────────────────────────

-- a row: group, tag, chain, seq; it has a label where its group has a cover
abbrev pub label_in : Groups → List ℕ → Option Label
label_in g r = cond (has_cover g (field 0 r)) (some (record { chain = field 2 r; seq = field 3 r })) none

-- an unresolved reference: child, kind, handle
abbrev pub unresolved_in : List ℕ → Unresolved
unresolved_in r = record { child = field 0 r; kind = field 1 r; handle = field 2 r }

-- a state root: row, handle
abbrev pub root_in : List ℕ → Root
root_in r = record { row = field 0 r; handle = field 1 r }

-- a link: group, from chain, from seq, to chain, to seq
abbrev pub link_in : List ℕ → GroupLink
link_in r = record { group = field 0 r; link = record { from_chain = field 1 r; from_seq = field 2 r; to_chain = field 3 r; to_seq = field 4 r } }

-- ── the sheet ────────────────────────────────────────────────────────────────────────────────

unfoldable pub sheet_of : Counts → List ℕ → Groups → List ℕ → List ℕ → List ℕ → List ℕ → List ℕ → List ℕ → Sheet
sheet_of z subject groups rows unresolved roots links offsets targets = record {
  start = z.start;
  subject = subject;
  groups = listed (facts_at groups) groups.count;
  row_groups = keys 4 z.rows rows;
  tags = several 4 (field 1) z.rows rows;
  labels = several 4 (label_in groups) z.rows rows;
  lists = cut offsets targets;
  unresolved = several 3 unresolved_in z.unresolved unresolved;
  roots = several 2 root_in z.roots roots;
  links = several 5 link_in z.links links;
}
