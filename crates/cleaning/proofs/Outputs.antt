-- An output file as read: its lists are the rows' new lists, its cover has the rows' labels and the group's links, and its events are the rows.
use mathlib.Core.Path.{◌≡◌, refl, ap, ap₂, sym, subst, ◌∙◌}
use mathlib.Core.Bool.{false}
use mathlib.Core.List.{List, [], ◌∷◌, ◌++◌, map}
use mathlib.Core.Option.{Option, none, some}
use Prim.Native.Nat.{ℕ, suc, ◌+◌, ◌*◌, ◌≤◌, ◌<◌, ◌^◌}
use native.Mathlib.Omega.{arith}
use native.Mathlib.Nat.{add-zero, zero-add, mul-zero}
use lib.ListN.{length, length-append}
use lib.Seq.{append_snoc, take_all}
use Rattle.lists.specs.Lists.{flat, part, Each}
use Rattle.lists.proofs.Each.{each-imp, each_map, each-flat, each-get_or}
use Rattle.columns.specs.Limits.{Served, reference_kinds}
use Rattle.columns.specs.Reading.{Label}
use Rattle.columns.specs.Building.{built_of, forward_part}
use Rattle.columns.proofs.ReadBack.{slots_set, cut-joined}
use Rattle.cover.specs.Chains.{Link, ranges_of}
use Rattle.cover.proofs.Stored.{stored_back}
use Rattle.archive.specs.File.{Row, Unresolved}
use Rattle.cleaning.specs.Source.{SourceCover, Source, source_of, cover_read}
use Rattle.cleaning.specs.Archive.{Taken, Event, Group, is_erased, label_in, root_in, references_in, body_of, events_from}
use Rattle.cleaning.specs.Summary.{Kept, Summary}
use Rattle.cleaning.specs.Writing.{Numbered, rows_in, first_number, unresolved_of, roots_from, labels_in, slots_of_rows, graph_of_rows, graph_of, group_at, cover_of_group, output_of}
use Rattle.cleaning.proofs.Good.{GoodLinks, GoodLabel, Good}
use Rattle.lists.proofs.Filters.{each_left, each_right}
use Rattle.cleaning.proofs.Numbers.{Counted}
use Rattle.cleaning.proofs.Blocks.{GoodRow, rows_before, rows-good, rows_within}
use Rattle.cleaning.proofs.Followed.{EachKind, length-slots, lists_at, root-at, references-at, label_at, labels-columns}

-- ── the source of an output file ─────────────────────────────────────────────────────────────

abbrev pub kept_cover : Option (List Link) → List Numbered → Option SourceCover
kept_cover none rs = none
kept_cover (some links) rs = some (record { labels = labels_in rs; ranges = length (ranges_of (labels_in rs)); links = links })

abbrev pub row_of : Numbered → Row
row_of r = record { erased = false; tag = r.row.body.tag }

-- a source that holds some rows of a group and nothing else
pub record Holds (s : Source) (g : ℕ) (group : Group) (rs : List Numbered) : Type 0 where
  pub first : s.first ≡ first_number rs
  pub number : s.group ≡ g
  pub depth : s.depth ≡ group.depth
  pub forward : s.forward ≡ slots_of_rows rs
  pub rows : s.rows ≡ map row_of rs
  pub unresolved : s.unresolved ≡ flat unresolved_of rs
  pub roots : s.roots ≡ roots_from 0 rs
  pub cover : s.cover ≡ kept_cover group.links rs

-- the parents of rows, as building is given them, are those of the one granule
pub forward-part : (K : ℕ) (served : Served K) (S : Summary) (g : ℕ) (group : Group) (rs : List Numbered) → Each (EachKind K) rs → forward_part K (graph_of_rows S g group rs) ≡ slots_of_rows rs
unfolding forward_part graph_of_rows part
forward-part K served S g group rs h = rw (cut-joined (slots_of_rows rs), mul-zero K) (take_all (K * length rs) (slots_of_rows rs) (omega (arith, length-slots K served rs h)))

cover-back : (links : Option (List Link)) (rs : List Numbered) → GoodLinks links → cover_read (cover_of_group links rs) ≡ kept_cover links rs
cover-back none rs h = refl
cover-back (some links) rs h =
    ap some (λ i. record { labels = labels-columns (labels_in rs) i; ranges = length (ranges_of (labels_in rs)); links = stored_back links h.0 h.1 i })

row-kinds : (K : ℕ) (served : Served K) (S : Summary) (g : ℕ) (r : Numbered) → GoodRow K S g r → EachKind K r
row-kinds K served S g r h = h.lists.each_kind

module _ (K : ℕ) (served : Served K) (S : Summary) (good : Good K S) (g : ℕ) where
  pub rows_kinds : Each (EachKind K) (rows_in S g)
  rows_kinds = each-imp (GoodRow K S g) (EachKind K) (rows_in S g) (row-kinds K served S g) (rows-good K served S good g)

  pub output-holds : g < length S.groups → Holds (source_of K (output_of K S g)) g (group_at S g) (rows_in S g)
  unfolding source_of output_of built_of graph_of graph_of_rows
  output-holds l = record {
    first = refl;
    number = refl;
    depth = refl;
    forward = rw (add-zero (first_number (rows_in S g)), slots_set K (first_number (rows_in S g)) (forward_part K (graph_of S g)))
        (forward-part K served S g (group_at S g) (rows_in S g) rows_kinds);
    rows = refl;
    unresolved = refl;
    roots = refl;
    cover = cover-back (group_at S g).links (rows_in S g) (each-get_or _ S.groups g _ good.groups l).2;
  }

  -- the unresolved records of a group's rows: children in the group's numbers, kinds and handles in their bounds
  pub references-each : (P : Unresolved → Type 0) → g < length S.groups
      → ((u : Unresolved) → S.start + rows_before S g ≤ u.child → u.child < S.start + rows_before S (suc g) → u.kind < reference_kinds → u.handle < 2 ^ 32 → P u)
      → Each P (flat unresolved_of (rows_in S g))
  unfolding unresolved_of
  references-each P l f =
      each-flat P unresolved_of (rows_in S g)
      (each-imp _ (λ r. Each P (unresolved_of r)) (rows_in S g)
      (λ r h. each_map P _ r.row.body.unresolved
      (each-imp (λ u. (u.kind < reference_kinds) × (u.handle < 2 ^ 32)) _ r.row.body.unresolved
      (λ u k. f _ h.1.0 h.1.1 k.0 k.1) h.0.body.unresolved))
      (rows_within K served S good g l))

-- ── its events ───────────────────────────────────────────────────────────────────────────────

-- a survivor's row as an event
abbrev pub event_of : Kept → Event
event_of r = record { erased = false; body = r.body; parents = r.parents }

kept_label : (links : Option (List Link)) (before : List Numbered) (r : Numbered) (rs : List Numbered)
    → Each (λ b. GoodLabel links b.row.body.label) before → GoodLabel links r.row.body.label
    → label_in (kept_cover links (before ++ (r ∷ rs))) (length before) ≡ r.row.body.label
kept_label none before r rs h k = go r.row.body.label k
  where
    go : (o : Option Label) → GoodLabel none o → none ≡ o
    go none k = refl
    go (some l) k = absurd k
kept_label (some links) before r rs h k = label_at links before r rs h k

module _ (K : ℕ) (served : Served K) (S : Summary) (t : Taken) (s : Source) (g : ℕ) (all : List Numbered) (holds : Holds s g (group_at S g) all)
    (counted : Counted (first_number all) all) (good : Each (GoodRow K S g) all) where
  good-label : (r : Numbered) → GoodRow K S g r → GoodLabel (group_at S g).links r.row.body.label
  good-label r h = rw h.group at h.body.label

  labels-before : (before : List Numbered) (r : Numbered) (rs : List Numbered) → Each (GoodRow K S g) (before ++ (r ∷ rs))
      → Each (λ b. GoodLabel (group_at S g).links b.row.body.label) before
  labels-before before r rs h =
      each-imp (GoodRow K S g) (λ b. GoodLabel (group_at S g).links b.row.body.label) before good-label (each_left (GoodRow K S g) before (r ∷ rs) h)

  body_back : (before : List Numbered) (r : Numbered) (rs : List Numbered) → all ≡ before ++ (r ∷ rs) → body_of s (length before) (row_of r) ≡ r.row.body
  unfolding body_of
  body_back before r rs e =
      let split = rw e at good in
      let this = (each_right (GoodRow K S g) before (r ∷ rs) split).0 in
      let group : s.group ≡ r.row.body.group = holds.number ∙ sym this.group in
      let label : label_in s.cover (length before) ≡ r.row.body.label =
      ap (λ c. label_in c (length before)) (holds.cover ∙ ap (kept_cover (group_at S g).links) e)
      ∙ kept_label (group_at S g).links before r rs (labels-before before r rs split) (good-label r this) in
      let root : root_in s.roots (length before) ≡ r.row.body.root =
      ap (λ l. root_in l (length before)) (holds.roots ∙ ap (roots_from 0) e) ∙ (rw (zero-add (length before)) at (root-at 0 before r rs)) in
      let refs : references_in s.unresolved (s.first + length before) ≡ r.row.body.unresolved =
      ap (λ n. references_in s.unresolved (n + length before)) holds.first
      ∙ ap (λ us. references_in us (first_number all + length before)) (holds.unresolved ∙ ap (flat unresolved_of) e)
      ∙ references-at (first_number all) before r rs (subst (Counted (first_number all)) e counted) in
      λ i. record { group = group i; tag = r.row.body.tag; label = label i; root = root i; unresolved = refs i }

  lists_back : (before : List Numbered) (r : Numbered) (rs : List Numbered) → all ≡ before ++ (r ∷ rs)
      → part (K * length before) K s.forward ≡ r.row.parents
  lists_back before r rs e =
      let kinds-of = each-imp (GoodRow K S g) (EachKind K) (before ++ (r ∷ rs)) (row-kinds K served S g) (rw e at good) in
      ap (part (K * length before) K) (holds.forward ∙ ap slots_of_rows e)
      ∙ lists_at K served before r rs (each_left (EachKind K) before (r ∷ rs) kinds-of) (each_right (EachKind K) before (r ∷ rs) kinds-of).0

  events-from : (before rs : List Numbered) → all ≡ before ++ rs → events_from K t s (length before) (map row_of rs) ≡ map (λ r. event_of r.row) rs
  unfolding events_from is_erased
  events-from before [] e = refl
  events-from before (r ∷ rs) e =
      let n : length (before ++ (r ∷ [])) ≡ suc (length before) = omega (arith, length-append before (r ∷ [])) in
      let rest = rw n at (events-from (before ++ (r ∷ [])) rs (e ∙ sym (append_snoc before r rs))) in
      ap₂ (λ x xs. x ∷ xs) (λ i. record { erased = false; body = body_back before r rs e i; parents = lists_back before r rs e i }) rest

  pub events-back : events_from K t s 0 s.rows ≡ map (λ r. event_of r.row) all
  events-back = ap (events_from K t s 0) holds.rows ∙ events-from [] all refl
