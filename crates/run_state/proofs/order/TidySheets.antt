-- A sheet whose columns are in order stands for a tidy sheet, and the other way round; what is held then is neat.
use mathlib.Core.Path.{◌≡◌, refl, sym, ap, ap₂, ◌∙◌}
use mathlib.Core.Bool.{Bool, true, false, cond, ◌&&◌, beq}
use mathlib.Core.List.{List, [], ◌∷◌, map, map-map}
use mathlib.Core.Option.{none, some}
use Prim.Native.Nat.{ℕ, zero, suc, ◌+◌, ◌*◌, ◌≤◌, ◌<◌}
use native.Mathlib.Omega.{arith}
use lib.Dec.{ltb, leb}
use lib.ListN.{length, get_or, take, length-map}
use lib.Seq.{slice, slice-cons, length-take-le, get_or-take}
use borrow.Author.Tests.{ltb-true, leb-true, eq-eqb}
use Rattle.lists.specs.Lists.{all, up_from}
use Rattle.lists.specs.Order.{rising, not_falling}
use Rattle.lists.proofs.Tests.{both, all-each}
use Rattle.lists.proofs.Each.{each-imp}
use Rattle.lists.proofs.Filters.{map-places}
use Rattle.lists.proofs.From.{EachFrom}
use Rattle.lists.proofs.Flat.{length-map-up_from, get_or-map-up_from}
use Rattle.lists.proofs.Slices.{slice-none}
use Rattle.columns.specs.Limits.{kinds, max_numbers}
use Rattle.columns.specs.EdgeSet.{offsets_form, event_of}
use Rattle.columns.specs.Building.{in_file}
use Rattle.cleaning.specs.Source.{is_there}
use Rattle.cleaning.specs.Sections.{labels_fit, Tidy, reaches}
use Rattle.cleaning.proofs.Sides.{SlotBelow}
use Rattle.cleaning.proofs.Neat.{Neat}
use Rattle.cleaning.specs.Held.{no_facts}
use Rattle.columns_rules.proofs.SlotTables.{table_of, length_cut}
use Rattle.run_state.specs.declared.Groups.{Groups}
use Rattle.run_state.specs.declared.Rows.{Rows}
use Rattle.run_state.specs.declared.Edges.{Edges}
use Rattle.run_state.specs.declared.Sheet.{Sheet}
use Rattle.run_state.specs.declared.Held.{Held}
use Rattle.run_state.specs.View.{flagged, has_cover, listed, facts_at, label_at, unresolved_at, root_at, link_at, slots_in, sheet_in, held_in}
use Rattle.run_state.specs.Valid.{edges_ok, counts_ok, below, earlier, records_ok, sheet_ok, held_ok}
use Rattle.run_state.specs.order.Ordered.{groups_ordered, ordered, filled}
use Rattle.run_state.specs.order.Long.{LongSheet, LongHeld}
use Rattle.run_state.proofs.order.Turns.{rows_few, children-few, roots_few, links_few}

-- ── columns place by place ───────────────────────────────────────────────────────────────────

pub column-listed : (n : ℕ) (l : List ℕ) → n ≤ length l → listed (λ i. get_or l i 0) n ≡ take n l
column-listed n l h =
    let e = length-take-le n l h in
    ap (λ m. listed (λ i. get_or l i 0) m) (sym e) ∙ map-places (λ i. get_or l i 0) 0 (take n l) 0 (λ j k. let z : 0 + j ≡ j = omega arith in rw z (sym (get_or-take n l j 0 (omega arith))))

-- a part of records is a column of theirs
parts : {A : Type 0} (f : ℕ → A) (g : A → ℕ) (l : List ℕ) (n : ℕ) → ((i : ℕ) → g (f i) ≡ get_or l i 0) → n ≤ length l → map g (listed f n) ≡ take n l
parts f g l n e h = map-map g f (up_from 0 n) ∙ map_same (up_from 0 n) ∙ column-listed n l h
  where
    map_same : (is : List ℕ) → map (λ i. g (f i)) is ≡ map (λ i. get_or l i 0) is
    map_same [] = refl
    map_same (i ∷ is) = ap₂ (λ x xs. x ∷ xs) (e i) (map_same is)

-- a test of a part of every record is one of the column
all-parts : {A : Type 0} (p : ℕ → Bool) (g : A → ℕ) (xs : List A) → all (λ x. p (g x)) xs ≡ all p (map g xs)
unfolding all
all-parts p g [] = refl
all-parts p g (x ∷ xs) = ap (λ b. p (g x) && b) (all-parts p g xs)

-- ── labels ───────────────────────────────────────────────────────────────────────────────────

there-where : {A : Type 0} (b : Bool) (x : A) → beq (is_there (cond b (some x) none)) b ≡ true
there-where true x = refl
there-where false x = refl

first-label : (g : Groups) (r : Rows) (i : ℕ) → below g.count (get_or r.groups i 0) ≡ true
    → beq (is_there (label_at g r i)) (get_or (listed (facts_at g) g.count) (get_or r.groups i 0) no_facts).covered ≡ true
unfolding label_at facts_at below
first-label g r i h =
    let x = get_or r.groups i 0 in
    let z : 0 + x ≡ x = omega arith in
    let f = get_or-map-up_from (facts_at g) 0 g.count x no_facts (ltb-true x g.count h) in
    rw (f, z) (there-where (has_cover g x) (record { chain = get_or r.chains i 0; seq = get_or r.seqs i 0 }))

labels-fit : (g : Groups) (r : Rows) (i m : ℕ) → i + m ≤ length r.groups → all (below g.count) (slice i (i + m) r.groups) ≡ true
    → labels_fit (listed (facts_at g) g.count) (slice i (i + m) r.groups) (map (label_at g r) (up_from i m)) ≡ true
unfolding labels_fit up_from all
labels-fit g r i zero h e = rw (slice-none i (i + 0) r.groups (omega arith)) refl
labels-fit g r i (suc m) h e =
    let z : i + suc m ≡ suc i + m = omega arith in
    let c = slice-cons i (i + suc m) r.groups 0 (omega arith) h in
    let q = both (below g.count (get_or r.groups i 0)) (all (below g.count) (slice (suc i) (i + suc m) r.groups)) (rw c at e) in
    rw (c, first-label g r i q.0) (rw z (labels-fit g r (suc i) m (omega arith) (rw z at q.1)))

and-true : {a b : Bool} → a ≡ true → b ≡ true → (a && b) ≡ true
and-true {a} {b} e f = rw (e, f)

-- ── sheets ───────────────────────────────────────────────────────────────────────────────────

-- as many lists as rows and kinds
pub slots_length : (n : ℕ) (e : Edges) → edges_ok n e ≡ true → length (slots_in n e) ≡ kinds * n
unfolding edges_ok slots_in
slots_length n e k =
    let f = both (leb e.count max_numbers) (offsets_form kinds n e.count (take (kinds * n + 1) e.offsets)) k in
    length_cut (kinds * n) 0 (take (kinds * n + 1) e.offsets) (take e.count e.targets) (table_of n e.count (take (kinds * n + 1) e.offsets) f.1).long

module _ (s : Sheet) (l : LongSheet s) (k : sheet_ok s ≡ true) where
  pub counts : counts_ok s ≡ true
  unfolding sheet_ok
  counts = (both (counts_ok s) _ k).0

  pub edges-form : edges_ok s.rows.count s.edges ≡ true
  unfolding sheet_ok
  edges-form = (both (edges_ok s.rows.count s.edges) _ (both (counts_ok s) _ k).1).0

  in-records : records_ok s ≡ true
  unfolding sheet_ok
  in-records = (both (records_ok s) _ (both (edges_ok s.rows.count s.edges) _ (both (counts_ok s) _ k).1).1).0

  pub below-events : earlier s.start 0 (slots_in s.rows.count s.edges) ≡ true
  unfolding sheet_ok
  below-events = (both (records_ok s) _ (both (edges_ok s.rows.count s.edges) _ (both (counts_ok s) _ k).1).1).1

  pub tags-length : length (take s.rows.count s.rows.tags) ≡ s.rows.count
  tags-length = length-take-le s.rows.count s.rows.tags (omega (arith, rows_few s counts, l.rows.tags))

  pub groups-length : length (take s.rows.count s.rows.groups) ≡ s.rows.count
  groups-length = length-take-le s.rows.count s.rows.groups (omega (arith, rows_few s counts, l.rows.groups))

  facts-length : length (listed (facts_at s.groups) s.groups.count) ≡ s.groups.count
  facts-length = length-map-up_from (facts_at s.groups) 0 s.groups.count

  pub children-column : map (λ u. u.child) (listed (unresolved_at s.unresolved) s.unresolved.count) ≡ take s.unresolved.count s.unresolved.children
  unfolding unresolved_at
  children-column = parts (unresolved_at s.unresolved) (λ u. u.child) s.unresolved.children s.unresolved.count (λ i. refl)
      (omega (arith, children-few s counts, l.unresolved.children))

  pub roots-column : map (λ r. r.row) (listed (root_at s.roots) s.roots.count) ≡ take s.roots.count s.roots.rows
  unfolding root_at
  roots-column = parts (root_at s.roots) (λ r. r.row) s.roots.rows s.roots.count (λ i. refl) (omega (arith, roots_few s counts, l.roots.rows))

  pub links-column : map (λ x. x.group) (listed (link_at s.links) s.links.count) ≡ take s.links.count s.links.groups
  unfolding link_at
  links-column = parts (link_at s.links) (λ x. x.group) s.links.groups s.links.count (λ i. refl) (omega (arith, links_few s counts, l.links.groups))

  -- every group of a row is there
  labels-there : all (below s.groups.count) (take s.rows.count s.rows.groups) ≡ true
      → labels_fit (listed (facts_at s.groups) s.groups.count) (take s.rows.count s.rows.groups) (listed (label_at s.groups s.rows) s.rows.count) ≡ true
  labels-there e =
      let z : 0 + s.rows.count ≡ s.rows.count = omega arith in
      rw z at (labels-fit s.groups s.rows 0 s.rows.count (omega (arith, rows_few s counts, l.rows.groups)) (rw z e))

  pub tidy-sheet : ordered s ≡ true → Tidy kinds (sheet_in s)
  unfolding ordered groups_ordered sheet_in records_ok below
  tidy-sheet o =
      let a = both (groups_ordered s.groups.count s.rows.count s.rows.groups) _ o in
      let b = both (groups_ordered s.groups.count s.links.count s.links.groups) _ a.1 in
      let d = both (rising (take s.roots.count s.roots.rows)) _ b.1 in
      let g = both (not_falling (take s.rows.count s.rows.groups)) _ a.0 in
      let h = both (not_falling (take s.links.count s.links.groups)) _ b.0 in
      let r = both (all (in_file s.start (s.start + s.rows.count)) (take s.unresolved.count s.unresolved.children)) _ in-records in
      record {
        each_group = eq-eqb _ _ (groups-length ∙ sym tags-length);
        each_label = eq-eqb _ _ (length-map-up_from (label_at s.groups s.rows) 0 s.rows.count ∙ sym tags-length);
        each_list = eq-eqb _ _ (slots_length s.rows.count s.edges edges-form ∙ ap (λ m. kinds * m) (sym tags-length));
        group_order = g.0;
        groups_known = rw facts-length g.1;
        root_order = rw roots-column d.0;
        roots_within = rw tags-length (all-parts (below s.rows.count) (λ r. r.row) (listed (root_at s.roots) s.roots.count) ∙ rw roots-column r.1);
        child_order = rw children-column d.1;
        children_within = rw tags-length (all-parts (in_file s.start (s.start + s.rows.count)) (λ u. u.child)
            (listed (unresolved_at s.unresolved) s.unresolved.count) ∙ rw children-column r.0);
        link_order = rw links-column h.0;
        links_known = rw facts-length (all-parts (below s.groups.count) (λ x. x.group) (listed (link_at s.links) s.links.count) ∙ rw links-column h.1);
        labelled = labels-there g.1;
      }

  pub ordered_sheet : Tidy kinds (sheet_in s) → ordered s ≡ true
  unfolding ordered groups_ordered sheet_in below
  ordered_sheet t =
      let g : all (below s.groups.count) (take s.rows.count s.rows.groups) ≡ true = rw facts-length at t.groups_known in
      let f : all (λ x. below s.groups.count x.group) (listed (link_at s.links) s.links.count) ≡ true = rw facts-length at t.links_known in
      let h : all (below s.groups.count) (take s.links.count s.links.groups) ≡ true
      = ap (all (below s.groups.count)) (sym links-column) ∙ sym (all-parts (below s.groups.count) (λ x. x.group) (listed (link_at s.links) s.links.count)) ∙ f in
      and-true (and-true t.group_order g) (and-true (and-true (rw links-column at t.link_order) h) (and-true (rw roots-column at t.root_order) (rw children-column at t.child_order)))

  pub filled_sheet : filled s ≡ reaches (length (sheet_in s).groups) 0 (sheet_in s).row_groups
  unfolding filled sheet_in
  filled_sheet = rw facts-length

-- ── what is held ─────────────────────────────────────────────────────────────────────────────

-- the parents of slots that pass the test are below the slots' events
pub slots-below : (start slot : ℕ) (lists : List (List ℕ)) → earlier start slot lists ≡ true → EachFrom (SlotBelow kinds start) slot lists
unfolding earlier below
slots-below start slot [] e = tt
slots-below start slot (ps ∷ lists) e =
    let q = both (all (below (event_of kinds start slot)) ps) (earlier start (suc slot) lists) e in (
      each-imp (λ p. below (event_of kinds start slot) p ≡ true) (λ p. p < event_of kinds start slot) ps (λ p t. ltb-true p (event_of kinds start slot) t)
          (all-each (below (event_of kinds start slot)) ps q.0),
      slots-below start (suc slot) lists q.1,
    )

pub neat-held : (h : Held) → LongHeld h → held_ok h ≡ true → ordered h.sheet ≡ true → Neat kinds (held_in h)
unfolding held_in sheet_in held_ok records_ok below in_file
neat-held h l k o =
    let s = h.sheet in
    let e = (both (sheet_ok s) _ k).0 in
    let n = s.rows.count in
    let m : length (map flagged (take n h.erased)) ≡ n = length-map (take n h.erased) flagged ∙ length-take-le n h.erased (omega (arith, rows_few s (counts s l.sheet e), l.erased)) in
    let t = tidy-sheet s l.sheet e o in
    record {
      rows = record {
        groups = groups-length s l.sheet e ∙ sym m;
        tags = tags-length s l.sheet e ∙ sym m;
        labels = length-map-up_from (label_at s.groups s.rows) 0 n ∙ sym m;
        lists = slots_length n s.edges (edges-form s l.sheet e) ∙ ap (λ i. kinds * i) (sym m);
        roots = rw m (each-imp (λ r. ltb r.row n ≡ true) (λ r. r.row < n) (listed (root_at s.roots) s.roots.count) (λ r b. ltb-true r.row n b)
            (all-each (λ r. ltb r.row n) (listed (root_at s.roots) s.roots.count) (rw (tags-length s l.sheet e) at t.roots_within)));
        unresolved = rw m (each-imp (λ u. in_file s.start (s.start + n) u.child ≡ true) (λ u. (s.start ≤ u.child) × (u.child < s.start + n))
            (listed (unresolved_at s.unresolved) s.unresolved.count)
            (λ u b. let q = both (leb s.start u.child) (ltb u.child (s.start + n)) b in (leb-true s.start u.child q.0, ltb-true u.child (s.start + n) q.1))
            (all-each (λ u. in_file s.start (s.start + n) u.child) (listed (unresolved_at s.unresolved) s.unresolved.count) (rw (tags-length s l.sheet e) at t.children_within)));
      };
      tidy = t;
      below = slots-below s.start 0 (slots_in n s.edges) (below-events s l.sheet e);
    }
