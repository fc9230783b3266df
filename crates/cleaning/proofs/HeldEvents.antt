-- The events that a run holds, with a source more: those before, and those of the source.
use mathlib.Core.Path.{◌≡◌, refl, ap, sym, ◌∙◌}
use mathlib.Core.Bool.{false, cond}
use mathlib.Core.List.{List, [], ◌∷◌, ◌++◌, map, append-nil, map-append}
use mathlib.Core.Logic.{inl, inr}
use mathlib.Core.Option.{none, some}
use Prim.Native.Nat.{ℕ, zero, suc, ◌+◌, ◌*◌, ◌≤◌, ◌<◌}
use native.Mathlib.Omega.{arith}
use native.Mathlib.Nat.{not-suc-le-zero, le_of_suc-le-suc, zero-add, add-zero, mul-le-mul_left}
use lib.Dec.{eqb}
use lib.ListN.{length, get_or, drop, length-drop, length-map, get_or-append, get_or-map}
use lib.Seq.{get_or-append-add, take-append-le, drop-append-le, drop-append-add}
use borrow.Author.Tests.{ne_eqb}
use Rattle.lists.specs.Lists.{filter, part, up_from, Each}
use Rattle.lists.proofs.Each.{each-imp, each_map, each_all, each-get_or}
use Rattle.lists.proofs.Filters.{filter_none, filter-append, each_below, map-places}
use Rattle.lists.proofs.Flat.{map-ext, up_from-append, get_or-map-up_from}
use Rattle.lists.proofs.Once.{eqb-iff}
use Rattle.lists.proofs.Tests.{tested}
use Rattle.columns.specs.Limits.{Served}
use Rattle.archive.specs.File.{Row, Unresolved, Root}
use Rattle.cleaning.specs.Source.{Source}
use Rattle.cleaning.specs.Archive.{Taken, Event, label_in, root_in, references_in, body_of, is_erased, events_from, blank}
use Rattle.cleaning.specs.Sheet.{row_count, body_at, parents_at}
use Rattle.cleaning.specs.Held.{Held, shifted, sheet_with, held_with, event_at, archive_held}
use Rattle.cleaning.proofs.Taken.{RecordIn, Sound}
use Rattle.cleaning.proofs.Events.{events_in, length-events_in}
use Rattle.cleaning.proofs.HeldRows.{Ready, length_more}

-- ── records of rows, joined ──────────────────────────────────────────────────────────────────

root-left : (rs ss : List Root) (i : ℕ) → Each (λ r. r.row ≡ i → ⊥) ss → root_in (rs ++ ss) i ≡ root_in rs i
unfolding root_in
root-left [] [] i h = refl
root-left [] (s ∷ ss) i h = rw (ne_eqb s.row i h.0) (root-left [] ss i h.1)
root-left (r ∷ rs) ss i h = elim (tested (eqb r.row i)) [ inl e ↦ rw e | inr e ↦ rw e (root-left rs ss i h) ]

root-right : (rs ss : List Root) (i : ℕ) → Each (λ r. r.row ≡ i → ⊥) rs → root_in (rs ++ ss) i ≡ root_in ss i
unfolding root_in
root-right [] ss i h = refl
root-right (r ∷ rs) ss i h = rw (ne_eqb r.row i h.0) (root-right rs ss i h.1)

root-shifted : (n i : ℕ) (rs : List Root) → root_in (shifted n rs) (n + i) ≡ root_in rs i
unfolding root_in shifted
root-shifted n i [] = refl
root-shifted n i (r ∷ rs) =
    rw (eqb-iff (n + r.row) (n + i) r.row i (λ e. omega arith) (λ e. omega arith)) (ap (cond (eqb r.row i) (some r.handle)) (root-shifted n i rs))

module _ (us vs : List Unresolved) (n : ℕ) where
  -- a record of another number
  abbrev Other : Unresolved → Type 0
  Other u = u.child ≡ n → ⊥

  others-none : (ws : List Unresolved) → Each Other ws → filter (λ u. eqb u.child n) ws ≡ []
  others-none ws h = filter_none (λ u. eqb u.child n) ws (each-imp Other (λ u. eqb u.child n ≡ false) ws (λ u d. ne_eqb u.child n d) h)

  references-left : Each Other vs → references_in (us ++ vs) n ≡ references_in us n
  unfolding references_in
  references-left h = rw (filter-append (λ u. eqb u.child n) us vs, others-none vs h, append-nil (filter (λ u. eqb u.child n) us))

  references-right : Each Other us → references_in (us ++ vs) n ≡ references_in vs n
  unfolding references_in
  references-right h = rw (filter-append (λ u. eqb u.child n) us vs, others-none us h)

-- ── lists joined ─────────────────────────────────────────────────────────────────────────────

module _ {A : Type 0} (xs ys : List A) where
  part_left : (i n : ℕ) → i + n ≤ length xs → part i n (xs ++ ys) ≡ part i n xs
  unfolding part
  part_left i n l = rw (drop-append-le i xs ys (omega arith)) (take-append-le n (drop i xs) ys (omega (arith, length-drop i xs)))

  part_right : (m i n : ℕ) → m ≡ length xs + i → part m n (xs ++ ys) ≡ part i n ys
  unfolding part
  part_right m i n e = rw (e, drop-append-add xs ys i)

  get_or-right : (n i : ℕ) (d : A) → length xs ≡ n → get_or (xs ++ ys) (n + i) d ≡ get_or ys i d
  get_or-right n i d e = ap (λ m. get_or (xs ++ ys) (m + i) d) (sym e) ∙ get_or-append-add xs ys i d

-- ── events ───────────────────────────────────────────────────────────────────────────────────

-- a row that is nowhere
abbrev no_row : Row
no_row = record { erased = false; tag = 0 }

event_in : (K : ℕ) → Source → ℕ → Row → Event
event_in K s i row = record { erased = row.erased; body = body_of s i row; parents = part (K * i) K s.forward }

get_or-events : (K : ℕ) (t : Taken) (s : Source) (i : ℕ) (rows : List Row) (j : ℕ) → j < length rows → get_or (events_from K t s i rows) j blank ≡ event_in K s (i + j) (get_or rows j no_row)
unfolding events_from is_erased event_in
get_or-events K t s i [] j l = absurd (not-suc-le-zero l)
get_or-events K t s i (row ∷ rows) zero l = rw (add-zero i)
get_or-events K t s i (row ∷ rows) (suc j) l =
    let e : suc i + j ≡ i + suc j = omega arith in
    get_or-events K t s (suc i) rows j (le_of_suc-le-suc l) ∙ ap (λ m. event_in K s m (get_or rows j no_row)) e

module _ (K : ℕ) (served : Served K) (h : Held) (s : Source) (q : Ready K h s) (d : Sound K s) where
  -- the rows that are held, and where the source's rows stand
  abbrev n : ℕ
  n = length h.erased

  abbrev start : ℕ
  start = (sheet_with h.sheet s).start

  abbrev roots : List Root
  roots = shifted (row_count h.sheet) s.roots

  -- ── the rows that are held stay as they are ──────────────────────────────────────────────────

  root-stays : (i : ℕ) → i < n → root_in (h.sheet.roots ++ roots) i ≡ root_in h.sheet.roots i
  unfolding shifted
  root-stays i l =
      root-left h.sheet.roots roots i
      (each_map (λ r. r.row ≡ i → ⊥) (λ r. record { row = row_count h.sheet + r.row; handle = r.handle }) s.roots
      (each_all (λ r. row_count h.sheet + r.row ≡ i → ⊥) (λ r e. omega (arith, q.rows.tags)) s.roots))

  references-stay : (i : ℕ) → i < n → references_in (h.sheet.unresolved ++ s.unresolved) (start + i) ≡ references_in h.sheet.unresolved (h.sheet.start + i)
  references-stay i l =
      references-left h.sheet.unresolved s.unresolved (start + i)
      (each-imp (RecordIn s) (λ u. u.child ≡ start + i → ⊥) s.unresolved (λ u b e. omega (arith, q.start, b.0)) d.unresolved)
      ∙ ap (λ m. references_in h.sheet.unresolved (m + i)) (q.stays (omega arith))

  event-stays : (i : ℕ) → i < n → event_at K (held_with h s) i ≡ event_at K h i
  unfolding event_at held_with sheet_with body_at parents_at
  event-stays i l = λ j. record {
    erased = get_or-append h.erased (map (λ r. r.erased) s.rows) false i l j;
    body = record {
      group = get_or-append h.sheet.row_groups (map (λ r. s.group) s.rows) 0 i (omega (arith, q.rows.groups)) j;
      tag = get_or-append h.sheet.tags (map (λ r. r.tag) s.rows) 0 i (omega (arith, q.rows.tags)) j;
      label = get_or-append h.sheet.labels (map (label_in s.cover) (up_from 0 (length s.rows))) none i (omega (arith, q.rows.labels)) j;
      root = root-stays i l j;
      unresolved = references-stay i l j;
    };
    parents = part_left h.sheet.lists s.forward (K * i) K (omega (arith, q.rows.lists, mul-le-mul_left K l)) j;
  }

  -- ── the source's rows follow them ────────────────────────────────────────────────────────────

  group-new : (i : ℕ) → i < length s.rows → get_or (h.sheet.row_groups ++ map (λ r. s.group) s.rows) (n + i) 0 ≡ s.group
  group-new i l =
      get_or-right h.sheet.row_groups (map (λ r. s.group) s.rows) n i 0 q.rows.groups
      ∙ each-get_or (λ g. g ≡ s.group) (map (λ r. s.group) s.rows) i 0
      (each_map (λ g. g ≡ s.group) (λ r. s.group) s.rows (each_all (λ r. s.group ≡ s.group) (λ r. refl) s.rows))
      (omega (arith, length-map s.rows (λ r. s.group)))

  label-new : (i : ℕ) → i < length s.rows
      → get_or (h.sheet.labels ++ map (label_in s.cover) (up_from 0 (length s.rows))) (n + i) none ≡ label_in s.cover i
  label-new i l =
      get_or-right h.sheet.labels (map (label_in s.cover) (up_from 0 (length s.rows))) n i none q.rows.labels
      ∙ get_or-map-up_from (label_in s.cover) 0 (length s.rows) i none l ∙ ap (label_in s.cover) (zero-add i)

  root-new : (i : ℕ) → root_in (h.sheet.roots ++ roots) (n + i) ≡ root_in s.roots i
  root-new i =
      root-right h.sheet.roots roots (n + i)
      (each-imp (λ r. r.row < n) (λ r. r.row ≡ n + i → ⊥) h.sheet.roots (λ r b e. omega arith) q.rows.roots)
      ∙ ap (λ m. root_in roots (m + i)) (sym q.rows.tags) ∙ root-shifted (row_count h.sheet) i s.roots

  references-new : (i : ℕ) → references_in (h.sheet.unresolved ++ s.unresolved) (start + (n + i)) ≡ references_in s.unresolved (s.first + i)
  references-new i =
      references-right h.sheet.unresolved s.unresolved (start + (n + i))
      (each-imp (λ u. (h.sheet.start ≤ u.child) × (u.child < h.sheet.start + n)) (λ u. u.child ≡ start + (n + i) → ⊥) h.sheet.unresolved
      (λ u b e. omega (arith, q.stays (omega arith))) q.rows.unresolved)
      ∙ ap (references_in s.unresolved) (omega (arith, q.start))

  event-new : (i : ℕ) → i < length s.rows → event_at K (held_with h s) (n + i) ≡ event_in K s i (get_or s.rows i no_row)
  unfolding event_at held_with sheet_with body_at parents_at event_in body_of
  event-new i l = λ j. record {
    erased = (get_or-right h.erased (map (λ r. r.erased) s.rows) n i false refl ∙ get_or-map (λ r. r.erased) s.rows i no_row) j;
    body = record {
      group = group-new i l j;
      tag = (get_or-right h.sheet.tags (map (λ r. r.tag) s.rows) n i 0 q.rows.tags ∙ get_or-map (λ r. r.tag) s.rows i no_row) j;
      label = label-new i l j;
      root = root-new i j;
      unresolved = references-new i j;
    };
    parents = part_right h.sheet.lists s.forward (K * (n + i)) (K * i) K (omega (arith, q.rows.lists, mul-le-mul_left K l)) j;
  }

  -- ── all events ───────────────────────────────────────────────────────────────────────────────

  rows_more : row_count (held_with h s).sheet ≡ n + length s.rows
  unfolding held_with sheet_with
  rows_more = length_more K served h s h.sheet.tags (λ r. r.tag) q.rows.tags

  pub events-with : (t : Taken) → (archive_held K (held_with h s)).events ≡ (archive_held K h).events ++ events_in K t s
  unfolding archive_held
  events-with t =
      let m = length s.rows in
      let old : map (event_at K (held_with h s)) (up_from 0 n) ≡ map (event_at K h) (up_from 0 n) = map-ext (event_at K (held_with h s)) (event_at K h) (up_from 0 n)
      (each_below (λ i. event_at K (held_with h s) i ≡ event_at K h i) n event-stays) in
      let new : map (event_at K (held_with h s)) (up_from n (length (events_in K t s))) ≡ events_in K t s = map-places (event_at K (held_with h s)) n (events_in K t s) blank
      (λ i l. let k : i < m = omega (arith, length-events_in K t s) in
      event-new i k ∙ sym (get_or-events K t s 0 s.rows i k ∙ ap (λ j. event_in K s j (get_or s.rows i no_row)) (zero-add i))) in
      rw (rows_more, q.rows.tags, up_from-append 0 n m, zero-add n, map-append (event_at K (held_with h s)) (up_from 0 n) (up_from n m), old)
      (ap (λ es. map (event_at K h) (up_from 0 n) ++ es) (ap (λ k. map (event_at K (held_with h s)) (up_from n k)) (sym (length-events_in K t s)) ∙ new))
