-- Reading what building wrote gives the lists that building was given: for every accepted granule, whatever slices it is lent that are long enough.
use mathlib.Core.Path.{◌≡◌, refl, sym, ◌∙◌, subst}
use mathlib.Core.Bool.{true, false}
use mathlib.Core.Logic.{inl, inr}
use mathlib.Core.List.{List, [], ◌∷◌, ◌++◌}
use mathlib.Core.Option.{Option, none, some}
use Prim.Native.Nat.{ℕ, suc, ◌+◌, ◌-◌, ◌*◌, ◌≤◌, ◌<◌}
use native.Mathlib.Omega.{arith}
use lib.Dec.{ltb, leb}
use lib.ListN.{length, get_or, get_elem?, drop}
use lib.Seq.{get_or-take, get_or-drop}
use borrow.Author.Tests.{ltb-true, ltb-false, leb-true, le-ltb}
use Rattle.lists.specs.Lists.{all, any, distinct, up_from, part, Each}
use Rattle.lists.specs.Order.{sort}
use Rattle.lists.proofs.Tests.{tested, any_append}
use Rattle.lists.proofs.Once.{or-is-false}
use Rattle.lists.proofs.Each.{each_both, each-get_or}
use Rattle.lists.proofs.Flat.{length-up_from, get_or-up_from}
use Rattle.columns.specs.Limits.{kinds, max_numbers, end64}
use Rattle.columns.specs.Refusal.{accepted, unless, first_of, first_in, Lent, short, limits}
use Rattle.columns.specs.EdgeSet.{EdgeSet, forward, reverse, inbound, offsets_form, set_of}
use Rattle.columns.specs.Reading.{Labels, labels_in, cover_rules, set_rules, set_lengths, column_lengths, granule_rules, granule_of, read_beside, read_granule}
use Rattle.columns.specs.Questions.{list_of}
use Rattle.columns.specs.Building.{Graph, Built, end_of, slots_in, has, greater, record_count, numbers_ok, slot_rules, labels_rules, inbound_rules, all_inbound_rules, children_to}
use Rattle.columns.specs.Building.{slot_table, naming, reverse_lists, inbound_lists, granule_start, forward_part, reverse_part, inbound_part, build_rules, built_of, graph_records}
use Rattle.columns.specs.Building.{graph_lengths, build_beside}
use Rattle.columns.specs.declared.refusal.Refusal.{Refusal}
use Rattle.columns.specs.declared.refusal.Refusal.TheVariants.{EdgeEntries, NumberRange, InboundChild, InboundTwice, GranuleRows, OverNumbers}
use Rattle.columns.proofs.FirstBroken.{each_none, none_of, each-none-in, not-refused, passed, fails}
use Rattle.columns.proofs.Offsets.{cut-length, form-length}
use Rattle.columns.proofs.Checks.{kept-form}
use Rattle.columns.proofs.ReadBack.{AllowedFrom, slots_set, set-rules}
use Rattle.columns.proofs.Turned.{length-table, turned, turned_rising, inbound-edges, inbound-rising}
use Rattle.columns_rules.proofs.records.RecordParts.{there}
use Rattle.columns_rules.proofs.spans.GranuleTables.{part-table}
use Rattle.columns_encode.specs.built.ReadsBack.{lent_columns, Roomy, ReadsBack}
use Rattle.columns_encode.proofs.built.BuiltLimits.{part-full, few, built-within, read-limits, own-labels, labels-back}
use Rattle.columns_encode.proofs.built.BuiltSides.{table-side, part-side, forward-side, reverse-side, inbound-side}

unless-accepted : {A : Type 0} (o : Option Refusal) (x b : A) → unless o x ≡ accepted b → (o ≡ none) × (b ≡ x)
unfolding unless
unless-accepted none x b e = (refl, cc)
unless-accepted (some r) x b e = absurd (let z : ◌≡◌ {A = ℕ} 0 1 = cc in omega arith)

each_at : (P : ℕ → Type 0) (xs : List ℕ) → ((i : ℕ) → i < length xs → P (get_or xs i 0)) → Each P xs
each_at P [] h = tt
each_at P (x ∷ xs) h = (h 0 (omega arith), each_at P xs (λ i l. h (suc i) (omega arith)))

-- the list of a number of the granule is the same in the granule's part
granule-list : (first from n : ℕ) (lists : List (List ℕ)) (k p : ℕ) → k < kinds → first + from ≤ p → p < first + from + n
    → list_of kinds (first + from) (part (2 * from) (2 * n) lists) k p ≡ list_of kinds first lists k p
unfolding list_of part
granule-list first from n lists k p h l u =
    let place : 2 * from + (2 * (p - (first + from)) + k) ≡ 2 * (p - first) + k = omega arith in
    rw (
      le-ltb p (first + from) l,
      le-ltb p first (omega arith),
      get_or-take (2 * n) (drop (2 * from) lists) (2 * (p - (first + from)) + k) [] (omega arith),
      get_or-drop (2 * from) lists (2 * (p - (first + from)) + k) [],
      place,
    )

-- records are no fewer than their first column has entries
first-column : (a b : ℕ) → a ≤ greater a b
unfolding greater
first-column a b = elim (tested (ltb a b)) [ inl e ↦ let h = ltb-true a b e in rw e (omega arith) | inr e ↦ rw e (omega arith) ]

-- every inbound child that keeps 11 is at or past the file's end
child-past : (first end : ℕ) (cs : List ℕ) (parent kind : Option ℕ) (i : ℕ) → i < length cs → inbound_rules kinds first end (get_elem? cs i) parent kind ≡ none → end ≤ get_or cs i 0
unfolding inbound_rules has
child-past first end cs parent kind i l e =
    let p : has (leb end) (get_elem? cs i) ≡ true = passed InboundChild (has (leb end) (get_elem? cs i)) (each_none _ e).0 in
    leb-true end (get_or cs i 0) (rw (there cs i l) at p)

children-past : (first end : ℕ) (cs ps ks : List ℕ)
    → first_in (λ i. inbound_rules kinds first end (get_elem? cs i) (get_elem? ps i) (get_elem? ks i)) (up_from 0 (record_count cs ps ks)) ≡ none → Each (λ c. end ≤ c) cs
children-past first end cs ps ks e =
    each_at (λ c. end ≤ c) cs
    (λ i l. child-past first end cs (get_elem? ps i) (get_elem? ks i) i l (rule i (omega (arith, first-column (length cs) (greater (length ps) (length ks))))))
  where
    rule : (i : ℕ) → i < record_count cs ps ks → inbound_rules kinds first end (get_elem? cs i) (get_elem? ps i) (get_elem? ks i) ≡ none
    rule i u =
        let z : get_or (up_from 0 (record_count cs ps ks)) i 0 ≡ i = get_or-up_from 0 (record_count cs ps ks) i 0 u ∙ omega arith in
        rw z at (each-get_or (λ j. inbound_rules kinds first end (get_elem? cs j) (get_elem? ps j) (get_elem? ks j) ≡ none) (up_from 0 (record_count cs ps ks)) i 0
        (each-none-in (λ j. inbound_rules kinds first end (get_elem? cs j) (get_elem? ps j) (get_elem? ks j)) (up_from 0 (record_count cs ps ks)) e)
        (omega (arith, length-up_from 0 (record_count cs ps ks))))

module _ (g : Graph) (room : List Lent) (small : limits (graph_records g) (graph_lengths g) room ≡ none) (kept : build_rules kinds g ≡ none) (wide : Each (λ c. c < end64) g.inbound.children) where
  form : offsets_form kinds g.rows (length g.targets) g.offsets ≡ true
  unfolding build_rules
  form = passed EdgeEntries _ (each_none _ kept).1.0

  numbers : g.first + g.rows < end64
  unfolding build_rules numbers_ok
  numbers = ltb-true (g.first + g.rows) end64 (passed NumberRange _ (each_none _ kept).1.1.0)

  slots : slot_rules kinds g.first 0 (slots_in g) ≡ none
  unfolding build_rules
  slots = (each_none _ kept).1.1.1.0

  labelled : labels_rules g.rows g.labels ≡ none
  unfolding build_rules
  labelled = (each_none _ kept).1.1.1.1.1.1.0

  edges : all_inbound_rules kinds g ≡ none
  unfolding build_rules
  edges = (each_none _ kept).1.1.1.1.1.1.1.0

  once : all distinct (inbound_lists kinds g.first g.rows g.inbound) ≡ true
  unfolding build_rules
  once = passed InboundTwice _ (each_none _ kept).1.1.1.1.1.1.1.1.0

  inside : g.granule_first + g.granule_rows ≤ g.rows
  unfolding build_rules
  inside = ltb-false g.rows (g.granule_first + g.granule_rows) (not-refused GranuleRows _ (each_none _ kept).1.1.1.1.1.1.1.1.1.0)

  full : length (slots_in g) ≡ kinds * g.rows
  full = cut-length g.offsets g.targets ∙ omega (arith, form-length kinds g.rows (length g.targets) g.offsets form)

  children : Each (λ c. (end_of g ≤ c) × (c < end64)) g.inbound.children
  unfolding all_inbound_rules
  children =
      each_both (λ c. end_of g ≤ c) (λ c. c < end64) g.inbound.children
      (children-past g.first (end_of g) g.inbound.children g.inbound.parents g.inbound.kinds_given edges) wide

  -- ── the sets ─────────────────────────────────────────────────────────────────────────────────

  file-side : AllowedFrom kinds forward g.first (end_of g) 0 (slots_in g)
  file-side = forward-side g.first g.rows (end_of g) 0 (slots_in g) numbers (omega (arith, full)) slots

  forward_kept : set_rules kinds forward (granule_start g) g.granule_rows (end_of g) (set_of kinds (granule_start g) (forward_part kinds g)) ≡ none
  unfolding forward_part
  forward_kept =
      set-rules kinds forward (granule_start g) g.granule_rows (end_of g) (forward_part kinds g) (part-full g.granule_first g.granule_rows g.rows (slots_in g) full inside)
      (part-side forward g.first (end_of g) g.granule_first g.granule_rows (slots_in g) file-side)

  reverse-table : reverse_part kinds g ≡ slot_table kinds (naming kinds g.first g.rows (slots_in g)) (granule_start g) g.granule_rows
  unfolding reverse_part reverse_lists
  reverse-table = part-table (naming kinds g.first g.rows (slots_in g)) g.granule_first g.granule_rows g.first g.rows inside

  reverse_kept : set_rules kinds reverse (granule_start g) g.granule_rows (end_of g) (set_of kinds (granule_start g) (reverse_part kinds g)) ≡ none
  reverse_kept =
      set-rules kinds reverse (granule_start g) g.granule_rows (end_of g) (reverse_part kinds g)
      (rw reverse-table (length-table kinds (naming kinds g.first g.rows (slots_in g)) (granule_start g) g.granule_rows))
      (rw reverse-table (table-side reverse (granule_start g) (end_of g) (naming kinds g.first g.rows (slots_in g)) g.granule_rows (omega (arith, numbers, inside))
      (λ p k l u j. reverse-side g.first g.rows (end_of g) (slots_in g) file-side (omega arith) (omega (arith, numbers)) p k j)))

  inbound-table : inbound_part kinds g
      ≡ slot_table kinds (λ number kind. sort (children_to number kind g.inbound.children g.inbound.parents g.inbound.kinds_given)) (granule_start g) g.granule_rows
  unfolding inbound_part inbound_lists
  inbound-table =
      part-table (λ number kind. sort (children_to number kind g.inbound.children g.inbound.parents g.inbound.kinds_given)) g.granule_first g.granule_rows g.first g.rows inside

  inbound_kept : set_rules kinds inbound (granule_start g) g.granule_rows (end_of g) (set_of kinds (granule_start g) (inbound_part kinds g)) ≡ none
  inbound_kept =
      set-rules kinds inbound (granule_start g) g.granule_rows (end_of g) (inbound_part kinds g)
      (rw inbound-table (length-table kinds (λ number kind. sort (children_to number kind g.inbound.children g.inbound.parents g.inbound.kinds_given)) (granule_start g) g.granule_rows))
      (rw inbound-table (table-side inbound (granule_start g) (end_of g)
      (λ number kind. sort (children_to number kind g.inbound.children g.inbound.parents g.inbound.kinds_given)) g.granule_rows
      (omega (arith, numbers, inside)) (λ p k l u j. inbound-side (end_of g) p k g.inbound.children g.inbound.parents g.inbound.kinds_given children)))

  -- ── room ─────────────────────────────────────────────────────────────────────────────────────

  room_of : (set : ℕ) (s : EdgeSet) → set_rules kinds set (granule_start g) g.granule_rows (end_of g) s ≡ none → length s.deltas ≤ max_numbers → Roomy s
  room_of set s k d = record {
    offsets = omega (
      arith,
      form-length kinds g.granule_rows s.count s.offsets (kept-form kinds set (granule_start g) g.granule_rows (end_of g) s k),
      few g room small form full inside,
      inside,
    );
    deltas = d;
  }

  rooms-back : Roomy (built_of kinds g).forward × Roomy (built_of kinds g).reverse × Roomy (built_of kinds g).inbound
  unfolding column_lengths set_lengths built_of
  rooms-back =
      let w = built-within g room small form full inside none refl in (
        room_of forward (built_of kinds g).forward forward_kept w.1.0,
        room_of reverse (built_of kinds g).reverse reverse_kept w.1.1.1.0,
        room_of inbound (built_of kinds g).inbound inbound_kept w.1.1.1.1.1.0,
      )

  -- ── a reader ─────────────────────────────────────────────────────────────────────────────────

  read_back : (labels : Option Labels) (lent : List Lent) → cover_rules g.granule_rows labels ≡ none → any short lent ≡ false
      → read_granule kinds (granule_start g) g.granule_rows (end_of g) (lent_columns (built_of kinds g) labels) lent
      ≡ accepted (record { forward = forward_part kinds g; reverse = reverse_part kinds g; inbound = inbound_part kinds g; labels = labels_in labels })
  unfolding read_granule read_beside granule_rules granule_of first_of unless built_of
  read_back labels lent c s =
      rw (
        read-limits g room small form full inside labels lent c s,
        forward_kept,
        reverse_kept,
        inbound_kept,
        c,
        slots_set kinds (granule_start g) (forward_part kinds g),
        slots_set kinds (granule_start g) (reverse_part kinds g),
        slots_set kinds (granule_start g) (inbound_part kinds g),
      )

  module _ (k n : ℕ) (h : k < kinds) (l : granule_start g ≤ n) (u : n < granule_start g + g.granule_rows) where
    reverse-list : list_of kinds (granule_start g) (reverse_part kinds g) k n ≡ list_of kinds g.first (reverse_lists kinds g.first g.rows (slots_in g)) k n
    unfolding reverse_part
    reverse-list = granule-list g.first g.granule_first g.granule_rows (reverse_lists kinds g.first g.rows (slots_in g)) k n h l u

    inbound-list : list_of kinds (granule_start g) (inbound_part kinds g) k n ≡ list_of kinds g.first (inbound_lists kinds g.first g.rows g.inbound) k n
    unfolding inbound_part
    inbound-list = granule-list g.first g.granule_first g.granule_rows (inbound_lists kinds g.first g.rows g.inbound) k n h l u

  back : ReadsBack g (built_of kinds g)
  unfolding built_of
  back = record {
    forward_room = rooms-back.0;
    reverse_room = rooms-back.1;
    inbound_room = rooms-back.2;
    forward_kept = forward_kept;
    reverse_kept = reverse_kept;
    inbound_kept = inbound_kept;
    forward_lists = slots_set kinds (granule_start g) (forward_part kinds g);
    reverse_set = slots_set kinds (granule_start g) (reverse_part kinds g);
    inbound_set = slots_set kinds (granule_start g) (inbound_part kinds g);
    granule = read_back;
    labels_kept = own-labels g.granule_first g.granule_rows g.rows g.labels labelled inside;
    labels_read = labels-back g.granule_first g.granule_rows g.labels;
    turned = λ k n h i e b. rw (reverse-list k n h i.0 i.1) (turned kinds g.first g.rows (slots_in g) k n h (omega (arith, i.0)) (omega (arith, i.1, inside)) e b);
    turned_rising = λ k n h i. rw (reverse-list k n h i.0 i.1) (turned_rising kinds g.first g.rows (slots_in g) k n);
    given = λ k n h i c. rw (inbound-list k n h i.0 i.1) (inbound-edges kinds g.first g.rows g.inbound k n h (omega (arith, i.0)) (omega (arith, i.1, inside)) c);
    given_rising = λ k n h i. rw (inbound-list k n h i.0 i.1) (inbound-rising kinds g.first g.rows g.inbound k n once);
  }

-- columns that are lent beside the graph's own loosen no limit
fewer : (records idle columns : List ℕ) (lent : List Lent) → limits records (idle ++ columns) lent ≡ none → limits records columns lent ≡ none
unfolding limits
fewer records idle columns lent e =
    let p = each_none _ e in
    let f = or-is-false (any (ltb max_numbers) idle) _ (sym (any_append (ltb max_numbers) idle columns) ∙ not-refused OverNumbers _ p.1.0) in
    none_of _ (p.0, (fails OverNumbers _ f.1, (p.1.1.0, tt)))

-- what building accepts reads back, where the inbound children are numbers of 64 bits, as a lent column's are
pub built-reads-back : (idle : List ℕ) (g : Graph) (lent : List Lent) (b : Built) → build_beside kinds idle g lent ≡ accepted b → Each (λ c. c < end64) g.inbound.children → ReadsBack g b
unfolding build_beside
built-reads-back idle g lent b e wide =
    let made = unless-accepted (first_of (limits (graph_records g) (idle ++ graph_lengths g) lent ∷ build_rules kinds g ∷ [])) (built_of kinds g) b e in
    subst (ReadsBack g) (sym made.1) (back g lent (fewer (graph_records g) idle (graph_lengths g) lent (each_none _ made.0).0) (each_none _ made.0).1.0 wide)
