-- Document 01, "Cleaning" and "Demand 3's words": an archive as a whole, which is the sources of a run in order, seen as events and groups.
use Rattle.std.specs.Prelude.{Bool, false, cond, ℕ, zero, suc, ◌+◌, ◌-◌, ◌*◌, ltb, eqb, get_or}
use mathlib.Core.List.{List, [], ◌∷◌, ◌++◌, map, foldl}
use Rattle.std.proofs.Math.Option.{Option, none, some}
use Rattle.std.proofs.Math.ListN.{get_elem?}
use Rattle.lists.specs.Lists.{flat, filter, part}
use Rattle.columns.specs.Reading.{Label}
use Rattle.columns.specs.Building.{Depth}
use Rattle.cover.specs.Chains.{Link}
use Rattle.archive.specs.File.{Row, Unresolved, Root}
use Rattle.cleaning.specs.Source.{SourceCover, Source}

-- what a run has taken: its sources, in order
pub record Taken : Type 0 where
  pub sources : List Source

-- ── events ───────────────────────────────────────────────────────────────────────────────────

-- an unresolved reference: a kind, and the host's handle of a parent
pub record Reference : Type 0 where
  pub kind : ℕ
  pub handle : ℕ

-- what follows a survivor: its group, tag, label where its group has a cover, state root, unresolved references in record order
pub record Body : Type 0 where
  pub group : ℕ
  pub tag : ℕ
  pub label : Option Label
  pub root : Option ℕ
  pub unresolved : List Reference

-- an event: whether it is erased, what follows it, and its parents, a list for each kind
pub record Event : Type 0 where
  pub erased : Bool
  pub body : Body
  pub parents : List (List ℕ)

-- whether a run holds the event of a number as erased: by its row's flag as taken
unfoldable pub is_erased : Taken → ℕ → Row → Bool
is_erased t number row = row.erased

abbrev pub label_in : Option SourceCover → ℕ → Option Label
label_in none row = none
label_in (some c) row = get_elem? c.labels row

-- the state root of a row, if it has one
unfoldable pub root_in : List Root → ℕ → Option ℕ
root_in [] row = none
root_in (r ∷ rs) row = cond (eqb r.row row) (some r.handle) (root_in rs row)

-- the unresolved references of a number
unfoldable pub references_in : List Unresolved → ℕ → List Reference
references_in us number = map (λ u. record { kind = u.kind; handle = u.handle }) (filter (λ u. eqb u.child number) us)

unfoldable pub body_of : Source → ℕ → Row → Body
body_of s i row = record {
  group = s.group;
  tag = row.tag;
  label = label_in s.cover i;
  root = root_in s.roots i;
  unresolved = references_in s.unresolved (s.first + i);
}

-- the events of a source's rows from row i on
unfoldable pub events_from : (K : ℕ) → Taken → Source → ℕ → List Row → List Event
events_from K t s i [] = []
events_from K t s i (row ∷ rows) =
    record { erased = is_erased t (s.first + i) row; body = body_of s i row; parents = part (K * i) K s.forward } ∷ events_from K t s (suc i) rows

abbrev pub events_of : (K : ℕ) → Taken → List Event
events_of K t = flat (λ s. events_from K t s 0 s.rows) t.sources

-- ── groups ───────────────────────────────────────────────────────────────────────────────────

-- what is known of a group as a whole: its depth, and its links where it has a cover
pub record Group : Type 0 where
  pub depth : Option Depth
  pub links : Option (List Link)

abbrev pub links_in : Option SourceCover → Option (List Link)
links_in none = none
links_in (some c) = some c.links

abbrev pub group_of : Source → Group
group_of s = record { depth = s.depth; links = links_in s.cover }

-- the least minimum and the greatest maximum, or nothing if either is lacking
abbrev pub join_depth : Option Depth → Option Depth → Option Depth
join_depth none e = none
join_depth (some d) none = none
join_depth (some d) (some e) = some (record {
  least = cond (ltb e.least d.least) e.least d.least;
  greatest = cond (ltb d.greatest e.greatest) e.greatest d.greatest;
})

abbrev pub join_links : Option (List Link) → Option (List Link) → Option (List Link)
join_links none m = none
join_links (some l) none = none
join_links (some l) (some m) = some (l ++ m)

abbrev pub join_group : Group → Group → Group
join_group g h = record { depth = join_depth g.depth h.depth; links = join_links g.links h.links }

-- a group of a number joined to the group of that number; a number not met yet starts a group
unfoldable pub join_at : ℕ → List Group → Group → List Group
join_at n [] h = h ∷ []
join_at zero (g ∷ gs) h = join_group g h ∷ gs
join_at (suc n) (g ∷ gs) h = g ∷ join_at n gs h

unfoldable pub add_source : List Group → Source → List Group
add_source gs s = join_at s.group gs (group_of s)

-- the groups of sources, by rising number
unfoldable pub groups_of : List Source → List Group
groups_of ss = foldl add_source [] ss

-- ── the archive ──────────────────────────────────────────────────────────────────────────────

-- the start is the first source's first number; events stand in the order of their numbers
pub record Archive : Type 0 where
  pub start : ℕ
  pub subject : List ℕ
  pub groups : List Group
  pub events : List Event

abbrev pub start_of : List Source → ℕ
start_of [] = 0
start_of (s ∷ ss) = s.first

abbrev pub subject_of : List Source → List ℕ
subject_of [] = []
subject_of (s ∷ ss) = s.subject

unfoldable pub archive_of : (K : ℕ) → Taken → Archive
archive_of K t = record { start = start_of t.sources; subject = subject_of t.sources; groups = groups_of t.sources; events = events_of K t }

-- no event: what a number outside the archive looks up
abbrev pub blank : Event
blank = record { erased = false; body = record { group = 0; tag = 0; label = none; root = none; unresolved = [] }; parents = [] }

-- the event of a number at or past the start
unfoldable pub at : Archive → ℕ → Event
at A p = get_or A.events (p - A.start) blank

-- an event's list of one kind
unfoldable pub parents_of : ℕ → Event → List ℕ
parents_of kind e = get_or e.parents kind []
