-- The output files of a good summary, taken again with nothing erased, are an archive whose cleaned form is that summary.
use mathlib.Core.Path.{◌≡◌, refl, ap, ap₂, sym, ◌∙◌}
use mathlib.Core.List.{List, [], ◌∷◌, ◌++◌, map, foldl, append-nil, map-map}
use mathlib.Core.Option.{Option, none, some}
use Prim.Native.Nat.{ℕ, zero, suc, ◌<◌}
use native.Mathlib.Omega.{arith}
use native.Mathlib.Nat.{add-zero}
use lib.ListN.{length, get_or, length-append}
use lib.Seq.{append_snoc, get_or-append_seam}
use Rattle.columns.specs.Limits.{Served}
use Rattle.lists.specs.Lists.{flat, sum, up_from, Each}
use Rattle.lists.proofs.Flat.{flat-ext, map-flat, flat_map}
use Rattle.cover.specs.Chains.{Link}
use Rattle.cleaning.specs.Source.{Source, source_of}
use Rattle.cleaning.specs.Archive.{Taken, Group, group_of, links_in, join_at, add_source, groups_of, start_of, subject_of, events_of, events_from, archive_of}
use Rattle.cleaning.specs.Summary.{Summary, summary}
use Rattle.cleaning.specs.Writing.{Numbered, numbered, rows_in, no_group, group_at, output_of, outputs, group_numbers}
use Rattle.cleaning.proofs.Good.{Good}
use Rattle.lists.proofs.Filters.{each_below}
use Rattle.cleaning.proofs.Numbers.{map-numbered}
use Rattle.cleaning.proofs.Blocks.{all-rows, rows_counted, rows-first, rows-good}
use Rattle.cleaning.proofs.Outputs.{output-holds, event_of, events-back, kept_cover}
use Rattle.cleaning.proofs.Unerased.{unerased, summary-unerased}

-- the output files of a summary, taken
abbrev pub again : (K : ℕ) → Summary → Taken
again K S = record { sources = map (source_of K) (outputs K S) }

-- the source of the output file of a group
abbrev pub source_at : (K : ℕ) → Summary → ℕ → Source
source_at K S g = source_of K (output_of K S g)

pub sources-again : (K : ℕ) (served : Served K) (S : Summary) → (again K S).sources ≡ map (source_at K S) (group_numbers S)
unfolding outputs
sources-again K served S = map-map (source_of K) (output_of K S) (group_numbers S)

-- ── groups ───────────────────────────────────────────────────────────────────────────────────

join-new : (gs : List Group) (h : Group) → join_at (length gs) gs h ≡ gs ++ (h ∷ [])
unfolding join_at
join-new [] h = refl
join-new (g ∷ gs) h = ap (λ hs. g ∷ hs) (join-new gs h)

-- sources of which each has the group of its number, numbers from where the groups so far end, add those groups
add-groups : (src : ℕ → Source) (all before rest : List Group) → all ≡ before ++ rest
    → Each (λ g. ((src g).group ≡ g) × (group_of (src g) ≡ get_or all g no_group)) (up_from (length before) (length rest))
    → foldl add_source before (map src (up_from (length before) (length rest))) ≡ before ++ rest
unfolding up_from add_source
add-groups src all before [] e h = sym (append-nil before)
add-groups src all before (g ∷ rest) e h =
    let n : length (before ++ (g ∷ [])) ≡ suc (length before) = omega (arith, length-append before (g ∷ [])) in
    let this : group_of (src (length before)) ≡ g = h.0.1 ∙ ap (λ gs. get_or gs (length before) no_group) e ∙ get_or-append_seam before g rest no_group in
    let grown : add_source before (src (length before)) ≡ before ++ (g ∷ []) =
    ap₂ (λ m x. join_at m before x) h.0.0 this ∙ join-new before g in
    ap (λ gs. foldl add_source gs (map src (up_from (suc (length before)) (length rest)))) grown
    ∙ ap (λ m. foldl add_source (before ++ (g ∷ [])) (map src (up_from m (length rest)))) (sym n)
    ∙ add-groups src all (before ++ (g ∷ [])) rest (e ∙ sym (append_snoc before g rest)) (rw n h.1)
    ∙ append_snoc before g rest

kept-links : (links : Option (List Link)) (rs : List Numbered) → links_in (kept_cover links rs) ≡ links
kept-links none rs = refl
kept-links (some ls) rs = refl

module _ (K : ℕ) (served : Served K) (S : Summary) (good : Good K S) where
  group-back : (g : ℕ) → g < length S.groups → ((source_at K S g).group ≡ g) × (group_of (source_at K S g) ≡ group_at S g)
  group-back g l =
      let h = output-holds K served S good g l in
      (h.number, λ i. record { depth = h.depth i; links = (ap links_in h.cover ∙ kept-links (group_at S g).links (rows_in S g)) i })

  pub groups-again : groups_of (again K S).sources ≡ S.groups
  unfolding groups_of
  groups-again =
      ap (foldl add_source []) (sources-again K served S)
      ∙ add-groups (source_at K S) S.groups [] S.groups refl
      (each_below (λ g. ((source_at K S g).group ≡ g) × (group_of (source_at K S g) ≡ group_at S g)) (length S.groups) group-back)

  -- ── events ───────────────────────────────────────────────────────────────────────────────────

  events-of : (t : Taken) (g : ℕ) → g < length S.groups
      → events_from K t (source_at K S g) 0 (source_at K S g).rows ≡ map (λ r. event_of r.row) (rows_in S g)
  events-of t g l =
      events-back K served S t (source_at K S g) g (rows_in S g) (output-holds K served S good g l)
      (rw (rows-first K served S good g l) (rows_counted K served S good g l)) (rows-good K served S good g)

  pub events-again : events_of K (again K S) ≡ map event_of S.rows
  unfolding numbered
  events-again =
      ap (flat (λ s. events_from K (again K S) s 0 s.rows)) (sources-again K served S)
      ∙ flat_map (λ s. events_from K (again K S) s 0 s.rows) (source_at K S) (group_numbers S)
      ∙ flat-ext (λ g. events_from K (again K S) (source_at K S g) 0 (source_at K S g).rows) (λ g. map (λ r. event_of r.row) (rows_in S g)) (group_numbers S)
      (each_below _ (length S.groups) (events-of (again K S)))
      ∙ sym (map-flat (λ r. event_of r.row) (rows_in S) (group_numbers S))
      ∙ ap (map (λ r. event_of r.row)) (all-rows K served S good)
      ∙ map-numbered event_of S.start S.rows

  -- ── the archive ──────────────────────────────────────────────────────────────────────────────

  start-again : (n : ℕ) → n ≡ length S.groups
      → (start_of (map (source_at K S) (up_from 0 n)) ≡ S.start) × (subject_of (map (source_at K S) (up_from 0 n)) ≡ S.subject)
  unfolding up_from sum source_of output_of
  start-again zero e = absurd (omega (arith, good.some))
  start-again (suc n) e = (rows-first K served S good 0 (omega arith) ∙ add-zero S.start, refl)

  pub archive-again : archive_of K (again K S) ≡ unerased S
  unfolding archive_of
  archive-again =
      let q = start-again (length S.groups) refl in
      let start : start_of (again K S).sources ≡ S.start = ap start_of (sources-again K served S) ∙ q.0 in
      let subject : subject_of (again K S).sources ≡ S.subject = ap subject_of (sources-again K served S) ∙ q.1 in
      λ i. record { start = start i; subject = subject i; groups = groups-again i; events = events-again i }

  pub summary-again : summary K (archive_of K (again K S)) ≡ S
  summary-again = ap (summary K) archive-again ∙ summary-unerased K served S good
