-- Document 01, "Cleaning" and "Archive records": the output files of a cleaned archive, one for each group, and what writing refuses.
use Rattle.std.specs.Prelude.{Bool, false, not, List, [], ◌∷◌, ◌++◌, map, ℕ, suc, ◌+◌, eqb, length, get_or}
use Rattle.std.proofs.Math.Option.{Option, none, some}
use Rattle.lists.specs.Lists.{flat, filter, joined, starts, up_from}
use Rattle.columns.specs.Refusal.{Verdict, unless, first_in}
use Rattle.columns.specs.Reading.{Label, Labels}
use Rattle.columns.specs.Building.{UnresolvedColumns, InboundColumns, Graph, Built, build_rules, built_of, in_file}
use Rattle.columns.specs.declared.refusal.Refusal.{Refusal}
use Rattle.cover.specs.Chains.{Link, ranges_of}
use Rattle.cover.specs.Cover.{columns_of}
use Rattle.archive.specs.File.{Unresolved, Root, CoverColumns, no_references, File}
use Rattle.archive.specs.Encode.{encode}
use Rattle.cleaning.specs.Archive.{Group}
use Rattle.cleaning.specs.Summary.{Kept, Summary}

-- ── the rows of an output file ───────────────────────────────────────────────────────────────

-- a survivor's row with its new number
pub record Numbered : Type 0 where
  pub number : ℕ
  pub row : Kept

unfoldable pub numbered_from : ℕ → List Kept → List Numbered
numbered_from n [] = []
numbered_from n (r ∷ rs) = record { number = n; row = r } ∷ numbered_from (suc n) rs

-- the survivors under their new numbers, consecutive from the start
unfoldable pub numbered : Summary → List Numbered
numbered S = numbered_from S.start S.rows

abbrev pub group_is : ℕ → Numbered → Bool
group_is g r = eqb r.row.body.group g

-- the rows of a group
unfoldable pub rows_in : Summary → ℕ → List Numbered
rows_in S g = filter (group_is g) (numbered S)

-- the number of the first of some rows
abbrev pub first_number : List Numbered → ℕ
first_number [] = 0
first_number (r ∷ rs) = r.number

-- ── what follows survivors ───────────────────────────────────────────────────────────────────

unfoldable pub unresolved_of : Numbered → List Unresolved
unresolved_of r = map (λ u. record { child = r.number; kind = u.kind; handle = u.handle }) r.row.body.unresolved

abbrev pub root_of : ℕ → Option ℕ → List Root
root_of i none = []
root_of i (some handle) = record { row = i; handle = handle } ∷ []

-- state roots of the rows from row i on
unfoldable pub roots_from : ℕ → List Numbered → List Root
roots_from i [] = []
roots_from i (r ∷ rs) = root_of i r.row.body.root ++ roots_from (suc i) rs

abbrev pub label_list : Option Label → List Label
label_list none = []
label_list (some l) = l ∷ []

unfoldable pub labels_in : List Numbered → List Label
labels_in rs = flat (λ r. label_list r.row.body.label) rs

unfoldable pub label_columns : List Label → Labels
label_columns ls = record { chains = map (λ l. l.chain) ls; seqs = map (λ l. l.seq) ls }

abbrev pub labels_of_group : Option (List Link) → List Numbered → Option Labels
labels_of_group none rs = none
labels_of_group (some links) rs = some (label_columns (labels_in rs))

-- ── inbound edges: from other output files, by new numbers ───────────────────────────────────

pub record Edge : Type 0 where
  pub child : ℕ
  pub parent : ℕ
  pub kind : ℕ

-- the edges of a row's lists from kind k on into the numbers from `first` up to `end`
unfoldable pub edges_into : ℕ → ℕ → ℕ → ℕ → List (List ℕ) → List Edge
edges_into first end child k [] = []
edges_into first end child k (ps ∷ lists) =
    map (λ p. record { child = child; parent = p; kind = k }) (filter (in_file first end) ps) ++ edges_into first end child (suc k) lists

-- the edges of all rows of other groups into a group's numbers
unfoldable pub edges_of : Summary → ℕ → ℕ → ℕ → List Edge
edges_of S g first end = flat (λ r. edges_into first end r.number 0 r.row.parents) (filter (λ r. not (group_is g r)) (numbered S))

unfoldable pub inbound_columns : List Edge → InboundColumns
inbound_columns es = record { children = map (λ e. e.child) es; parents = map (λ e. e.parent) es; kinds_given = map (λ e. e.kind) es }

-- ── an output file ───────────────────────────────────────────────────────────────────────────

-- the parents of rows, slot by slot
unfoldable pub slots_of_rows : List Numbered → List (List ℕ)
slots_of_rows rs = flat (λ r. r.row.parents) rs

unfoldable pub unresolved_columns : List Unresolved → UnresolvedColumns
unresolved_columns us = record { children = map (λ u. u.child) us; kinds_given = map (λ u. u.kind) us; flags = map (λ u. 0) us }

-- what building is given of some rows of group g: the whole file is one granule
unfoldable pub graph_of_rows : Summary → ℕ → Group → List Numbered → Graph
graph_of_rows S g group rs = let first = first_number rs in let n = length rs in record {
  subject = S.subject;
  first = first;
  rows = n;
  offsets = starts 0 (slots_of_rows rs);
  targets = joined (slots_of_rows rs);
  unresolved = unresolved_columns (flat unresolved_of rs);
  depth = group.depth;
  labels = labels_of_group group.links rs;
  inbound = inbound_columns (edges_of S g first (first + n));
  granule_first = 0;
  granule_rows = n;
}

abbrev pub no_group : Group
no_group = record { depth = none; links = none }

abbrev pub group_at : Summary → ℕ → Group
group_at S g = get_or S.groups g no_group

-- what building is given of a group
unfoldable pub graph_of : Summary → ℕ → Graph
graph_of S g = graph_of_rows S g (group_at S g) (rows_in S g)

abbrev pub cover_of_group : Option (List Link) → List Numbered → Option CoverColumns
cover_of_group none rs = none
cover_of_group (some links) rs = some (record { labels = label_columns (labels_in rs); ranges = ranges_of (labels_in rs); links = columns_of links })

abbrev pub file_of_rows : List ℕ → ℕ → Group → List Numbered → Built → File
file_of_rows subject g group rs b = record {
  first = first_number rs;
  group = g;
  subject = subject;
  depth = group.depth;
  forward = b.forward;
  reverse = b.reverse;
  inbound = b.inbound;
  rows = map (λ r. record { erased = false; tag = r.row.body.tag }) rs;
  unresolved = flat unresolved_of rs;
  roots = roots_from 0 rs;
  cover = cover_of_group group.links rs;
  references = no_references rs;
}

-- the output file of a group: no erased rows, its sets made from the new lists, ranges of the survivors' labels
unfoldable pub output_of : (K : ℕ) → Summary → ℕ → File
output_of K S g = file_of_rows S.subject g (group_at S g) (rows_in S g) (built_of K (graph_of S g))

-- the numbers of the groups
abbrev pub group_numbers : Summary → List ℕ
group_numbers S = up_from 0 (length S.groups)

-- the output files, groups rising
unfoldable pub outputs : (K : ℕ) → Summary → List File
outputs K S = map (output_of K S) (group_numbers S)

-- ── writing ──────────────────────────────────────────────────────────────────────────────────

-- building's rules, group by group
unfoldable pub write_rules : (K : ℕ) → Summary → Option Refusal
write_rules K S = first_in (λ g. build_rules K (graph_of S g)) (group_numbers S)

-- the archive's bytes: the records of one output file for each group
unfoldable pub bytes_of : (K : ℕ) → Summary → List ℕ
bytes_of K S = encode (outputs K S)

-- what writing answers but for the room that it is lent
unfoldable pub written : (K : ℕ) → Summary → Verdict (List ℕ)
written K S = unless (write_rules K S) (bytes_of K S)
