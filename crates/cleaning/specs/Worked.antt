-- Document 01, "Worked run and edges": the rows marked ◆, one table of questions and answers. proofs/Worked has that all agree with the rules.
use Rattle.std.specs.Prelude.{Bool, true, false, List, [], ◌∷◌, map, ℕ, ◌+◌, ◌-◌, ◌^◌, ℤ, pos, negsuc, length}
use Rattle.std.proofs.Math.Option.{none, some}
use Rattle.columns.specs.Limits.{kinds}
use Rattle.lists.specs.Lists.{joined, starts}
use Rattle.lists.specs.Text.{text}
use Rattle.columns.specs.Refusal.{Verdict, refused, accepted, number_of}
use Rattle.columns.specs.EdgeSet.{EdgeSet, set_of}
use Rattle.columns.specs.Building.{Graph, build}
use Rattle.columns.specs.Walk.{Walked, walk}
use Rattle.cover.specs.Chains.{Range}
use Rattle.cover.specs.Cover.{LinkColumns, differences, read_cover}
use Rattle.cover.specs.Questions.{may_hold_chain}
use Rattle.archive.specs.File.{Row, no_references, File}
use Rattle.archive.specs.Encode.{encode}
use Rattle.cleaning.specs.Source.{source_of}
use Rattle.cleaning.specs.Archive.{archive_of}
use Rattle.cleaning.specs.Summary.{summary}
use Rattle.cleaning.specs.Writing.{output_of}
use Rattle.cleaning.specs.Listing.{listing}

-- ── inputs ───────────────────────────────────────────────────────────────────────────────────

abbrev pub event : Bool → ℕ → Row
event erased tag = record { erased = erased; tag = tag }

-- a file of group 0 with no cover, depth, roots or unresolved records, and no edges but its forward ones, slot by slot
abbrev pub plain_file : ℕ → List Row → List (List ℕ) → File
plain_file first rows lists = record {
  first = first;
  group = 0;
  subject = text "room";
  depth = none;
  forward = set_of kinds first lists;
  reverse = set_of kinds first (map (λ l. []) lists);
  inbound = set_of kinds first (map (λ l. []) lists);
  rows = rows;
  unresolved = [];
  roots = [];
  cover = none;
  references = no_references rows;
}

-- four events from 100 on, of which 101 and 102 are erased: prev, then auth of each
unfoldable pub worked_file : File
worked_file = plain_file 100
    (event false 1 ∷ event true 2 ∷ event true 3 ∷ event false 4 ∷ [])
    ((90 ∷ []) ∷ []
    ∷ (100 ∷ []) ∷ (100 ∷ [])
    ∷ (101 ∷ 95 ∷ []) ∷ (101 ∷ [])
    ∷ (102 ∷ 100 ∷ []) ∷ (102 ∷ [])
    ∷ [])

-- two events, both erased
unfoldable pub erased_file : File
erased_file = plain_file 100 (event true 1 ∷ event true 2 ∷ []) ([] ∷ [] ∷ (100 ∷ []) ∷ [] ∷ [])

-- a graph of so many rows from a number on, its parents slot by slot
abbrev pub graph : ℕ → ℕ → List (List ℕ) → Graph
graph first rows lists = record {
  subject = text "room";
  first = first;
  rows = rows;
  offsets = starts 0 lists;
  targets = joined lists;
  unresolved = record { children = []; kinds_given = []; flags = [] };
  depth = none;
  labels = none;
  inbound = record { children = []; parents = []; kinds_given = [] };
  granule_first = 0;
  granule_rows = rows;
}

-- a graph of rows without parents whose events are of one chain
abbrev pub chained : List ℕ → Graph
chained seqs = record {
  subject = text "room";
  first = 100;
  rows = 2;
  offsets = 0 ∷ 0 ∷ 0 ∷ 0 ∷ 0 ∷ [];
  targets = [];
  unresolved = record { children = []; kinds_given = []; flags = [] };
  depth = none;
  labels = some (record { chains = 1 ∷ 1 ∷ []; seqs = seqs });
  inbound = record { children = []; parents = []; kinds_given = [] };
  granule_first = 0;
  granule_rows = 2;
}

-- a graph of one row, named by a child of another file
abbrev pub named : ℕ → ℕ → Graph
named first child = record {
  subject = text "room";
  first = first;
  rows = 1;
  offsets = 0 ∷ 0 ∷ 0 ∷ [];
  targets = [];
  unresolved = record { children = []; kinds_given = []; flags = [] };
  depth = none;
  labels = none;
  inbound = record { children = child ∷ []; parents = first ∷ []; kinds_given = 0 ∷ [] };
  granule_first = 0;
  granule_rows = 1;
}

-- ── questions and answers ────────────────────────────────────────────────────────────────────

pub data Question : Type 0 where
  lists : List File → Question
  walks : ℕ → Question
  builds : Graph → Question
  window : Range → ℕ → ℕ → Question
  stores : List ℕ → Question
  reads_stored : List ℕ → Question

pub data Reply : Type 0 where
  prints : List ℕ → Reply
  walk_of : List (List ℕ) → ℕ → Reply
  refused_with : ℕ → Reply
  sets : List EdgeSet → Reply
  yes : Bool → Reply
  column : List ℕ → Reply

-- a verdict as a reply: document 01's number, or what was accepted
unfoldable pub told : {A : Type 0} → (A → Reply) → Verdict A → Reply
told f (refused r) = refused_with (number_of r)
told f (accepted x) = f x

-- the prev walk from 101 in the worked run's output
unfoldable pub worked_walk : ℕ → Verdict Walked
worked_walk limit = let f = output_of kinds (summary kinds (archive_of kinds (record { sources = source_of kinds worked_file ∷ [] }))) 0 in walk kinds 100 2 102 f.forward 0 limit 101 []

-- four columns that hold stored from chains and zeros
abbrev pub stored_columns : List ℕ → LinkColumns
stored_columns chains = record { from_chains = chains; from_seqs = map (λ c. 0) chains; to_chains = map (λ c. 0) chains; to_seqs = map (λ c. 0) chains }

unfoldable pub answer_of : Question → Reply
answer_of (lists fs) = prints (listing kinds (encode fs))
answer_of (walks limit) = told (λ w. walk_of w.levels w.count) (worked_walk limit)
answer_of (builds g) = told (λ b. sets (b.forward ∷ b.reverse ∷ b.inbound ∷ [])) (build kinds g [])
answer_of (window r low high) = told yes (may_hold_chain (r ∷ []) r.chain low high)
answer_of (stores chains) = column (differences 0 chains)
answer_of (reads_stored chains) = told (λ c. column (map (λ l. l.from_chain) c.links)) (read_cover [] (stored_columns chains) [])

pub record Line : Type 0 where
  pub question : Question
  pub reply : Reply

abbrev pub ◌gives◌ : Question → Reply → Line
◌gives◌ q r = record { question = q; reply = r }

-- ── the table ────────────────────────────────────────────────────────────────────────────────

abbrev pub set : List ℕ → List ℤ → EdgeSet
set offsets deltas = record { count = length deltas; offsets = offsets; deltas = deltas }

abbrev pub no_edges : List ℕ → EdgeSet
no_edges offsets = set offsets []

infix 3 ◌gives◌
unfoldable pub table : List Line
table =
    (lists (worked_file ∷ []) gives prints (text "map 100 100\nmap 101 -\nmap 102 -\nmap 103 101\nfile 0 100 2\noffsets forward 0 1 1 3 4\ndeltas forward 10 1 6 1\noffsets reverse 0 1 2 2 2\ndeltas reverse -1 -1\noffsets inbound 0 0 0 0 0\ndeltas inbound\nreparented 1\n"))
    ∷ (walks 0 gives walk_of [] 0)
    ∷ (walks 1 gives walk_of ((95 ∷ []) ∷ []) 1)
    ∷ (walks 2 gives walk_of ((95 ∷ 100 ∷ []) ∷ []) 2)
    ∷ (walks 3 gives walk_of ((95 ∷ 100 ∷ []) ∷ (90 ∷ []) ∷ []) 3)
    -- first 2^64 − 2: one row, two rows
    ∷ (builds (graph (2 ^ 64 - 2) 1 ([] ∷ [] ∷ [])) gives sets (no_edges (0 ∷ 0 ∷ 0 ∷ []) ∷ no_edges (0 ∷ 0 ∷ 0 ∷ []) ∷ no_edges (0 ∷ 0 ∷ 0 ∷ []) ∷ []))
    ∷ (builds (graph (2 ^ 64 - 2) 2 ([] ∷ [] ∷ [] ∷ [] ∷ [])) gives refused_with 3)
    -- event 100: parent 99, parent 100
    ∷ (builds (graph 100 1 ((99 ∷ []) ∷ [] ∷ [])) gives sets (set (0 ∷ 1 ∷ 1 ∷ []) (pos 1 ∷ []) ∷ no_edges (0 ∷ 0 ∷ 0 ∷ []) ∷ no_edges (0 ∷ 0 ∷ 0 ∷ []) ∷ []))
    ∷ (builds (graph 100 1 ((100 ∷ []) ∷ [] ∷ [])) gives refused_with 4)
    -- parent 99 in both kinds, twice in prev
    ∷ (builds (graph 100 1 ((99 ∷ []) ∷ (99 ∷ []) ∷ [])) gives sets (set (0 ∷ 1 ∷ 2 ∷ []) (pos 1 ∷ pos 1 ∷ []) ∷ no_edges (0 ∷ 0 ∷ 0 ∷ []) ∷ no_edges (0 ∷ 0 ∷ 0 ∷ []) ∷ []))
    ∷ (builds (graph 100 1 ((99 ∷ 99 ∷ []) ∷ [] ∷ [])) gives refused_with 5)
    -- one chain: seqs 4, 5; seqs 4, 4
    ∷ (builds (chained (4 ∷ 5 ∷ [])) gives sets (no_edges (0 ∷ 0 ∷ 0 ∷ 0 ∷ 0 ∷ []) ∷ no_edges (0 ∷ 0 ∷ 0 ∷ 0 ∷ 0 ∷ []) ∷ no_edges (0 ∷ 0 ∷ 0 ∷ 0 ∷ 0 ∷ []) ∷ []))
    ∷ (builds (chained (4 ∷ 4 ∷ [])) gives refused_with 10)
    -- inbound child at the end, one below
    ∷ (builds (named 100 101) gives sets (no_edges (0 ∷ 0 ∷ 0 ∷ []) ∷ no_edges (0 ∷ 0 ∷ 0 ∷ []) ∷ set (0 ∷ 1 ∷ 1 ∷ []) (negsuc 0 ∷ []) ∷ []))
    ∷ (builds (named 100 100) gives refused_with 11)
    -- no rows
    ∷ (builds (graph 100 0 []) gives sets (no_edges (0 ∷ []) ∷ no_edges (0 ∷ []) ∷ no_edges (0 ∷ []) ∷ []))
    -- event 2^63: parent 1, parent 0
    ∷ (builds (graph (2 ^ 63) 1 ((1 ∷ []) ∷ [] ∷ [])) gives sets (set (0 ∷ 1 ∷ 1 ∷ []) (pos 9223372036854775807 ∷ []) ∷ no_edges (0 ∷ 0 ∷ 0 ∷ []) ∷ no_edges (0 ∷ 0 ∷ 0 ∷ []) ∷ []))
    ∷ (builds (graph (2 ^ 63) 1 ((0 ∷ []) ∷ [] ∷ [])) gives refused_with 15)
    -- event 0: inbound child 2^63, 2^63 + 1
    ∷ (builds (named 0 (2 ^ 63)) gives sets (no_edges (0 ∷ 0 ∷ 0 ∷ []) ∷ no_edges (0 ∷ 0 ∷ 0 ∷ []) ∷ set (0 ∷ 1 ∷ 1 ∷ []) (negsuc 9223372036854775807 ∷ []) ∷ []))
    ∷ (builds (named 0 (2 ^ 63 + 1)) gives refused_with 15)
    -- range 2 to 7, window 5 to 3
    ∷ (window (record { chain = 1; least = 2; greatest = 7 }) 5 3 gives yes true)
    -- the difference column alone, from chains 5 then 3; read back
    ∷ (stores (5 ∷ 3 ∷ []) gives column (5 ∷ 4294967294 ∷ []))
    ∷ (reads_stored (5 ∷ 4294967294 ∷ []) gives refused_with 22)
    -- every event of a group erased
    ∷ (lists (erased_file ∷ []) gives prints (text "refused 27\n"))
    ∷ []
