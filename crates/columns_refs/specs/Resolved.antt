-- What `resolve_graph` is lent, as a file's references and as slices for what it makes, what it answers, and what it leaves in the slices.
use Rattle.std.specs.Prelude.{◌≡◌, Bool, true, cond, List, [], ◌∷◌, map, ℕ, ◌+◌, ◌*◌, ◌≤◌, ◌<◌, ltb, length, Err, Ok, Result}
use Rattle.std.proofs.Math.Option.{Option}
use Rattle.std.proofs.lemmas.List.Edits.{sets}
use Rattle.lists.specs.Lists.{any, joined, starts}
use Rattle.columns.specs.Limits.{kinds, max_records, offsets_room, numbers_room, records_room, end64}
use Rattle.columns.specs.Refusal.{Verdict, refused, accepted, refuse, first_of, Lent}
use Rattle.columns.specs.EdgeSet.{from_to}
use Rattle.columns.specs.Answers.{written_in}
use Rattle.columns.specs.declared.refusal.Refusal.{Refusal}
use Rattle.columns.specs.declared.refusal.Refusal.TheVariants.{SliceShort, OverRecords, OverNumbers}
use Rattle.columns_refs.specs.References.{Referred, references_in, rows_in, Unresolved, Resolution, parent_lists, unresolved_from}
use Rattle.columns_refs.specs.declared.refs.Reference.{Reference}
use Rattle.columns_refs.specs.declared.Made.{Made}

-- ── what is lent ─────────────────────────────────────────────────────────────────────────────

abbrev pub referred : ℕ → ℕ → List ℕ → List ℕ → List ℕ → List ℕ → List ℕ → List ℕ → Referred
referred first rows starts ks ss ts known ns = record {
  first = first;
  rows = rows;
  starts = starts;
  kinds_given = ks;
  spaces = ss;
  targets = ts;
  known = known;
  numbers = ns;
}

-- slices of these lengths, for the offsets and targets of parent lists, and for each part of unresolved records
abbrev pub slices_of : ℕ → ℕ → ℕ → ℕ → ℕ → List Lent
slices_of offsets parents children kinds_room handles =
    record { has = offsets; needs = offsets_room kinds }
    ∷ record { has = parents; needs = numbers_room }
    ∷ record { has = children; needs = records_room }
    ∷ record { has = kinds_room; needs = records_room }
    ∷ record { has = handles; needs = records_room }
    ∷ []

-- a reference that is not there
abbrev pub absent : Reference
absent = record { kind = 0; space = 0; target = 0; known = 0; number = 0 }

-- the lesser of two numbers
unfoldable pub lesser : ℕ → ℕ → ℕ
lesser a b = cond (ltb b a) b a

-- 42, 43 and 41, by whether a column is too long and whether a lent slice is too short
unfoldable pub limit_rules : ℕ → ℕ → Bool → Bool → Option Refusal
limit_rules rows records over tight =
    first_of (refuse OverRecords (any (ltb max_records) (rows ∷ records ∷ [])) ∷ refuse OverNumbers over ∷ refuse SliceShort tight ∷ [])

-- ── columns of records ───────────────────────────────────────────────────────────────────────

abbrev pub children_of : List Unresolved → List ℕ
children_of us = map (λ u. u.child) us

abbrev pub kinds_of : List Unresolved → List ℕ
kinds_of us = map (λ u. u.kind) us

abbrev pub handles_of : List Unresolved → List ℕ
handles_of us = map (λ u. u.handle) us

-- three columns have n places at least
pub record RecordsRoom (n : ℕ) (cs ks hs : List ℕ) : Type 0 where
  pub children : n ≤ length cs
  pub kinds : n ≤ length ks
  pub handles : n ≤ length hs

-- three columns after records were written from place `at` on; the next place is r
pub record Noted (us : List Unresolved) (at r : ℕ) (cs ks hs cs' ks' hs' : List ℕ) : Type 0 where
  pub next : r ≡ at + length us
  pub children : cs' ≡ sets cs at (children_of us)
  pub kinds : ks' ≡ sets ks at (kinds_of us)
  pub handles : hs' ≡ sets hs at (handles_of us)

-- ── references whose rules are kept ──────────────────────────────────────────────────────────

-- offsets of so many rows into the references
pub record RowsForm (rows : ℕ) (offsets : List ℕ) (xs : List Reference) : Type 0 where
  pub many : length offsets ≡ rows + 1
  pub climbs : from_to 0 (length xs) offsets ≡ true

-- slices that parent lists fit into
pub record ListsRoom (rows : ℕ) (lists : List (List ℕ)) (os ps : List ℕ) : Type 0 where
  pub offsets : 2 * rows < length os
  pub parents : length (joined lists) ≤ length ps

-- what is known where nothing refuses, before anything is written
pub record Ready (g : Referred) (os ps cs ks hs : List ℕ) : Type 0 where
  pub numbers : g.first + g.rows ≤ end64
  pub form : RowsForm g.rows g.starts (references_in g)
  pub lists : ListsRoom g.rows (parent_lists (rows_in g)) os ps
  pub records : RecordsRoom (length (unresolved_from g.first 0 (rows_in g))) cs ks hs

-- ── answers ──────────────────────────────────────────────────────────────────────────────────

-- how many targets the parent lists have, and how many records there are
unfoldable pub resolved_of : Verdict Resolution → Result Made Refusal
resolved_of (refused r) = Err r
resolved_of (accepted x) = Ok (record { parents = length (joined x.lists); unresolved = length x.unresolved })

-- a lent slice after a verdict: a column of what was made, and behind it the slice as it was; as it was after a refusal
unfoldable pub laid : (Resolution → List ℕ) → Verdict Resolution → List ℕ → List ℕ
laid column (refused r) was = was
laid column (accepted x) was = written_in was (column x)

-- the columns of what was made
abbrev pub offsets_column : Resolution → List ℕ
offsets_column x = starts 0 x.lists

abbrev pub parents_column : Resolution → List ℕ
parents_column x = joined x.lists

abbrev pub children_column : Resolution → List ℕ
children_column x = children_of x.unresolved

abbrev pub kinds_column : Resolution → List ℕ
kinds_column x = kinds_of x.unresolved

abbrev pub handles_column : Resolution → List ℕ
handles_column x = handles_of x.unresolved

-- the answer of a verdict, and what five slices hold after it
pub record Answers (v : Verdict Resolution) (r : Result Made Refusal) (os ps cs ks hs os' ps' cs' ks' hs' : List ℕ) : Type 0 where
  pub answer : r ≡ resolved_of v
  pub offsets : os' ≡ laid offsets_column v os
  pub parents : ps' ≡ laid parents_column v ps
  pub children : cs' ≡ laid children_column v cs
  pub kinds : ks' ≡ laid kinds_column v ks
  pub handles : hs' ≡ laid handles_column v hs
