-- What a run holds of its sources, whose files may be any number: their rows and records joined into one sheet, with the flags of the rows, the
-- lists of the other two sets and the number of ranges. It is all that a later call depends on: proofs/Holding.
use Rattle.std.specs.Prelude.{Bool, true, false, cond, ◌||◌, ℕ, zero, suc, ◌+◌, ◌-◌, ltb, length, get_or}
use mathlib.Core.List.{List, [], ◌∷◌, ◌++◌, map, foldl}
use Rattle.std.proofs.Math.Option.{Option, none, some}
use Rattle.lists.specs.Lists.{sum, once, is_empty, up_from}
use Rattle.columns.specs.Limits.{max_records, max_groups, max_numbers}
use Rattle.columns.specs.Refusal.{Verdict, refused, unless, refuse, first_of}
use Rattle.columns.specs.declared.refusal.Refusal.{Refusal}
use Rattle.columns.specs.declared.refusal.Refusal.TheVariants.{OverRecords, OverNumbers, RecordBroken}
use Rattle.cover.specs.Chains.{Link}
use Rattle.archive.specs.File.{Root, File}
use Rattle.archive.specs.Reader.{Parsed, broken, got}
use Rattle.cleaning.specs.Source.{SourceCover, Source, source_of, is_there, range_count}
use Rattle.cleaning.specs.Archive.{Event, Archive, label_in, join_depth}
use Rattle.cleaning.specs.Taking.{stored_ranges, stored_link_count, files_rules, carries}
use Rattle.cleaning.specs.Sheet.{Facts, GroupLink, Sheet, row_count, body_at, parents_at, groups_of_sheet}

pub record Held : Type 0 where
  pub sheet : Sheet
  pub erased : List Bool
  pub reverse : List (List ℕ)
  pub inbound : List (List ℕ)
  pub ranges : ℕ

-- nothing taken
unfoldable pub nothing : Held
nothing = record {
  sheet = record { start = 0; subject = []; groups = []; row_groups = []; tags = []; labels = []; lists = []; unresolved = []; roots = []; links = [] };
  erased = [];
  reverse = [];
  inbound = [];
  ranges = 0;
}

-- ── a source more ────────────────────────────────────────────────────────────────────────────

-- the facts of a group joined: depths as far as they reach, a cover where there is one
abbrev pub join_facts : Facts → Facts → Facts
join_facts f h = record { depth = join_depth f.depth h.depth; covered = f.covered }

-- facts joined to those of the group of a number; a number not met yet starts a group
unfoldable pub facts_at : ℕ → List Facts → Facts → List Facts
facts_at n [] h = h ∷ []
facts_at zero (f ∷ fs) h = join_facts f h ∷ fs
facts_at (suc n) (f ∷ fs) h = f ∷ facts_at n fs h

abbrev pub links_in : Option SourceCover → List Link
links_in none = []
links_in (some c) = c.links

-- roots of a source whose rows stand after n others
unfoldable pub shifted : ℕ → List Root → List Root
shifted n rs = map (λ r. record { row = n + r.row; handle = r.handle }) rs

-- the sheet with a source more
unfoldable pub sheet_with : Sheet → Source → Sheet
sheet_with h s = record {
  start = cond (is_empty h.groups) s.first h.start;
  subject = cond (is_empty h.groups) s.subject h.subject;
  groups = facts_at s.group h.groups (record { depth = s.depth; covered = is_there s.cover });
  row_groups = h.row_groups ++ map (λ r. s.group) s.rows;
  tags = h.tags ++ map (λ r. r.tag) s.rows;
  labels = h.labels ++ map (label_in s.cover) (up_from 0 (length s.rows));
  lists = h.lists ++ s.forward;
  unresolved = h.unresolved ++ s.unresolved;
  roots = h.roots ++ shifted (row_count h) s.roots;
  links = h.links ++ map (λ l. record { group = s.group; link = l }) (links_in s.cover);
}

unfoldable pub held_with : Held → Source → Held
held_with h s = record {
  sheet = sheet_with h.sheet s;
  erased = h.erased ++ map (λ r. r.erased) s.rows;
  reverse = h.reverse ++ s.reverse;
  inbound = h.inbound ++ s.inbound;
  ranges = h.ranges + range_count s.cover;
}

-- what a run holds of sources taken one after the other
unfoldable pub held_of : List Source → Held
held_of ss = foldl held_with nothing ss

-- ── the archive that is held ─────────────────────────────────────────────────────────────────

unfoldable pub event_at : (K : ℕ) → Held → ℕ → Event
event_at K h i = record { erased = get_or h.erased i false; body = body_at h.sheet i; parents = parents_at K h.sheet i }

unfoldable pub archive_held : (K : ℕ) → Held → Archive
archive_held K h = record {
  start = h.sheet.start;
  subject = h.sheet.subject;
  groups = groups_of_sheet h.sheet;
  events = map (event_at K h) (up_from 0 (row_count h.sheet));
}

-- ── taking: 42, 43, and what a file looks back at ────────────────────────────────────────────

-- events, roots, unresolved records, ranges, links, group numbers, of the run and the archive together
unfoldable pub records_over : Held → List File → Bool
records_over h fs =
    ltb max_records (row_count h.sheet + sum (λ f. length f.rows) fs)
    || ltb max_records (length h.sheet.roots + sum (λ f. length f.roots) fs)
    || ltb max_records (length h.sheet.unresolved + sum (λ f. length f.unresolved) fs)
    || ltb max_records (h.ranges + sum (λ f. stored_ranges f.cover) fs)
    || ltb max_records (length h.sheet.links + sum (λ f. stored_link_count f.cover) fs)
    || ltb max_groups (length (once (up_from 0 (length h.sheet.groups) ++ map (λ f. f.group) fs)))

-- forward, reverse and inbound deltas
unfoldable pub numbers_over : Held → List File → Bool
numbers_over h fs =
    ltb max_numbers (sum length h.sheet.lists + sum (λ f. length f.forward.deltas) fs)
    || ltb max_numbers (sum length h.reverse + sum (λ f. length f.reverse.deltas) fs)
    || ltb max_numbers (sum length h.inbound + sum (λ f. length f.inbound.deltas) fs)

-- a source that ends at a number: of all that it could hold, a file looks back at its group, its subject, its end and whether it has a cover
unfoldable pub ending : ℕ → List ℕ → ℕ → Bool → Source
ending group subject end covered = record {
  first = end;
  group = group;
  subject = subject;
  depth = none;
  forward = [];
  reverse = [];
  inbound = [];
  rows = [];
  unresolved = [];
  roots = [];
  cover = cond covered (some (record { labels = []; ranges = 0; links = [] })) none;
}

abbrev pub no_facts : Facts
no_facts = record { depth = none; covered = false }

-- what the next file looks back at: the last group, where all rows end
unfoldable pub look_back : Sheet → Option Source
look_back s =
    let g = length s.groups - 1 in
    cond (is_empty s.groups) none (some (ending g s.subject (s.start + row_count s) (get_or s.groups g no_facts).covered))

-- 23 of references, 42, 43, then file by file
unfoldable pub hold_rules : (K : ℕ) → Held → List File → Option Refusal
hold_rules K h fs =
    first_of (refuse RecordBroken (carries fs) ∷ refuse OverRecords (records_over h fs) ∷ refuse OverNumbers (numbers_over h fs) ∷ files_rules K (look_back h.sheet) fs ∷ [])

-- what a run holds with an archive more; 23 comes first
abbrev pub hold_more : (K : ℕ) → Held → Parsed (List File) → Verdict Held
hold_more K h broken = refused RecordBroken
hold_more K h (got fs end) = unless (hold_rules K h fs) (foldl held_with h (map (source_of K) fs))
