-- Reading a built granule is within 42 and 43 because building it was, and the granule's own labels keep 20 and 21.
use mathlib.Core.Path.{◌≡◌, refl}
use mathlib.Core.Bool.{true, false}
use mathlib.Core.List.{List, [], ◌∷◌}
use mathlib.Core.Option.{Option, none, some}
use Prim.Native.Nat.{ℕ, zero, suc, ◌+◌, ◌*◌, ◌≤◌, ◌<◌}
use native.Mathlib.Omega.{arith}
use lib.Dec.{ltb, eqb}
use lib.ListN.{length, take, drop, length-take, length-drop}
use lib.Seq.{take-nil, drop-nil}
use borrow.Author.Tests.{ltb-false, le-ltb, lt-ltb, eq-eqb, eqb-true}
use Rattle.lists.specs.Lists.{all, any, joined, part, Each}
use Rattle.lists.specs.Order.{sort}
use Rattle.lists.proofs.Tests.{both, all-of}
use Rattle.lists.proofs.Each.{each_append, each-imp}
use Rattle.lists.proofs.Flat.{length-starts}
use Rattle.lists.proofs.Once.{or-is-false}
use Rattle.columns.specs.Limits.{kinds, max_records, max_numbers, end32}
use Rattle.columns.specs.Refusal.{first_of, Lent, short, limits}
use Rattle.columns.specs.EdgeSet.{offsets_form, set_of}
use Rattle.columns.specs.Reading.{Label, Labels, labels_of, labels_in, label_lengths, label_rules, cover_rules, set_lengths, column_lengths}
use Rattle.columns.specs.Building.{Graph, slots_in, labels_rules, children_to, naming, reverse_lists, inbound_lists, granule_part, granule_start, forward_part, reverse_part}
use Rattle.columns.specs.Building.{inbound_part, built_of, graph_records, graph_lengths}
use Rattle.columns.specs.declared.refusal.Refusal.TheVariants.{LabelCount, LabelColumns, OverRecords}
use Rattle.columns.proofs.Checks.{few-numbers}
use Rattle.columns.proofs.FirstBroken.{each_none, not-refused, passed}
use Rattle.columns.proofs.Offsets.{form-climbs}
use Rattle.columns.proofs.ReadBack.{set-count}
use Rattle.columns.proofs.Turned.{length-table}
use Rattle.columns_encode.specs.built.ReadsBack.{lent_columns, labels_part, Labels32}
use Rattle.columns_encode.proofs.built.BuiltLengths.{part-fewer, cut-fewer, reverse-fewer, inbound-fewer}

-- ── numbers within a limit ───────────────────────────────────────────────────────────────────

within : (m : ℕ) (xs : List ℕ) → any (ltb m) xs ≡ false → Each (λ x. x ≤ m) xs
unfolding any
within m [] e = tt
within m (x ∷ xs) e = let h = or-is-false (ltb m x) (any (ltb m) xs) e in (ltb-false m x h.0, within m xs h.1)

none_over : (m : ℕ) (xs : List ℕ) → Each (λ x. x ≤ m) xs → any (ltb m) xs ≡ false
unfolding any
none_over m [] h = refl
none_over m (x ∷ xs) h = rw (le-ltb m x h.0) (none_over m xs h.1)

few_rows : (rows : ℕ) (records columns : List ℕ) (lent : List Lent) → limits (rows ∷ records) columns lent ≡ none → rows ≤ max_records
unfolding limits
few_rows rows records columns lent e = (within max_records (rows ∷ records) (not-refused OverRecords _ (each_none _ e).0)).0

-- ── the columns of a set, and label columns ──────────────────────────────────────────────────

set-within : (first rows : ℕ) (lists : List (List ℕ)) → length lists ≡ kinds * rows → rows ≤ max_records → length (joined lists) ≤ max_numbers
    → Each (λ x. x ≤ max_numbers) (set_lengths (set_of kinds first lists))
unfolding set_lengths set_of
set-within first rows lists e f m = (omega (arith, length-starts 0 lists), (omega (arith, set-count kinds first lists), tt))

labels-within : (rows : ℕ) (labels : Option Labels) → rows ≤ max_records → cover_rules rows labels ≡ none → Each (λ x. x ≤ max_numbers) (label_lengths labels)
unfolding label_rules
labels-within rows none f e = tt
labels-within rows (some c) f e =
    let p = both (eqb (length c.chains) rows) (eqb (length c.seqs) rows) (passed LabelColumns _ (each_none _ e).0) in
    (omega (arith, eqb-true (length c.chains) rows p.0), (omega (arith, eqb-true (length c.seqs) rows p.1), tt))

pub part-full : (from n rows : ℕ) (lists : List (List ℕ)) → length lists ≡ kinds * rows → from + n ≤ rows → length (part (2 * from) (2 * n) lists) ≡ kinds * n
unfolding part
part-full from n rows lists e h = simp (length-take, length-drop) (omega arith)

module _ (g : Graph) (room : List Lent) (small : limits (graph_records g) (graph_lengths g) room ≡ none) (form : offsets_form kinds g.rows (length g.targets) g.offsets ≡ true)
    (full : length (slots_in g) ≡ kinds * g.rows) (inside : g.granule_first + g.granule_rows ≤ g.rows) where
  pub few : g.rows ≤ max_records
  unfolding graph_records
  few = few_rows g.rows _ (graph_lengths g) room small

  columns-within : Each (λ x. x ≤ max_numbers) (graph_lengths g)
  columns-within = within max_numbers (graph_lengths g) (few-numbers (graph_records g) (graph_lengths g) room small)

  -- the granule's part of lists with no more entries than a column that building was given
  part-within : (lists : List (List ℕ)) (n : ℕ) → length lists ≡ kinds * g.rows → length (joined lists) ≤ n → n ≤ max_numbers
      → Each (λ x. x ≤ max_numbers) (set_lengths (set_of kinds (granule_start g) (granule_part kinds g lists)))
  part-within lists n e l m =
      set-within (granule_start g) g.granule_rows (granule_part kinds g lists) (part-full g.granule_first g.granule_rows g.rows lists e inside) (omega (arith, few, inside))
      (omega (arith, part-fewer (kinds * g.granule_first) (kinds * g.granule_rows) lists))

  targets-few : length (joined (slots_in g)) ≤ length g.targets
  targets-few = cut-fewer (length g.targets) g.offsets g.targets (form-climbs kinds g.rows (length g.targets) g.offsets form)

  pub built-within : (labels : Option Labels) → cover_rules g.granule_rows labels ≡ none → Each (λ x. x ≤ max_numbers) (column_lengths (lent_columns (built_of kinds g) labels))
  unfolding column_lengths built_of forward_part reverse_part inbound_part graph_lengths reverse_lists inbound_lists
  built-within labels c =
      let w = columns-within in
      each_append (λ x. x ≤ max_numbers) (set_lengths (set_of kinds (granule_start g) (forward_part kinds g))) _
      (part-within (slots_in g) (length g.targets) full targets-few w.1.0)
      (each_append (λ x. x ≤ max_numbers) (set_lengths (set_of kinds (granule_start g) (reverse_part kinds g))) _
      (part-within (reverse_lists kinds g.first g.rows (slots_in g)) (length g.targets) (length-table kinds (naming kinds g.first g.rows (slots_in g)) g.first g.rows)
      (omega (arith, reverse-fewer g.first g.rows (slots_in g), targets-few)) w.1.0)
      (each_append (λ x. x ≤ max_numbers) (set_lengths (set_of kinds (granule_start g) (inbound_part kinds g))) (label_lengths labels)
      (part-within (inbound_lists kinds g.first g.rows g.inbound) (length g.inbound.children)
      (length-table kinds (λ number kind. sort (children_to number kind g.inbound.children g.inbound.parents g.inbound.kinds_given)) g.first g.rows)
      (inbound-fewer g.first g.rows g.inbound) w.1.1.0)
      (labels-within g.granule_rows labels (omega (arith, few, inside)) c)))

  pub read-limits : (labels : Option Labels) (lent : List Lent) → cover_rules g.granule_rows labels ≡ none → any short lent ≡ false
      → limits (g.granule_rows ∷ []) (column_lengths (lent_columns (built_of kinds g) labels)) lent ≡ none
  unfolding limits first_of
  read-limits labels lent c s =
      rw (
        none_over max_records (g.granule_rows ∷ []) (omega (arith, few, inside), tt),
        none_over max_numbers (column_lengths (lent_columns (built_of kinds g) labels)) (built-within labels c),
        s,
      )

-- ── the granule's own labels ─────────────────────────────────────────────────────────────────

module _ (P : ℕ → Type 0) where
  take-each : (n : ℕ) (xs : List ℕ) → Each P xs → Each P (take n xs)
  take-each zero xs h = tt
  take-each (suc n) [] h = tt
  take-each (suc n) (x ∷ xs) h = (h.0, take-each n xs h.1)

  drop-each : (n : ℕ) (xs : List ℕ) → Each P xs → Each P (drop n xs)
  drop-each zero xs h = h
  drop-each (suc n) [] h = tt
  drop-each (suc n) (x ∷ xs) h = drop-each n xs h.1

module _ (from n : ℕ) where
  column_fits : (xs : List ℕ) → Each (λ x. x < end32) xs → all (λ x. ltb x end32) (part from n xs) ≡ true
  unfolding part
  column_fits xs h =
      all-of (λ x. ltb x end32) (part from n xs)
      (each-imp (λ x. x < end32) (λ x. ltb x end32 ≡ true) (part from n xs) (λ x l. lt-ltb x end32 l) (take-each (λ x. x < end32) n (drop from xs) (drop-each (λ x. x < end32) from xs h)))

  column-full : (rows : ℕ) (xs : List ℕ) → length xs ≡ rows → from + n ≤ rows → length (part from n xs) ≡ n
  unfolding part
  column-full rows xs e h = simp (length-take, length-drop) (omega arith)

  label-counts : (rows : ℕ) (c : Labels) → labels_rules rows (some c) ≡ none → (length c.chains ≡ rows) × (length c.seqs ≡ rows)
  label-counts rows c e =
      let p = both (eqb (length c.chains) rows) (eqb (length c.seqs) rows) (passed LabelCount _ (each_none _ e).0) in
      (eqb-true (length c.chains) rows p.0, eqb-true (length c.seqs) rows p.1)

  pub own-labels : (rows : ℕ) (labels : Option Labels) → labels_rules rows labels ≡ none → from + n ≤ rows → Labels32 labels → cover_rules n (labels_part from n labels) ≡ none
  unfolding label_rules first_of
  own-labels rows none e h l = refl
  own-labels rows (some c) e h l =
      let p = label-counts rows c e in
      rw (
        eq-eqb (length (part from n c.chains)) n (column-full rows c.chains p.0 h),
        eq-eqb (length (part from n c.seqs)) n (column-full rows c.seqs p.1 h),
        column_fits c.chains l.0,
        column_fits c.seqs l.1,
      )

take-labels : (n : ℕ) (cs ss : List ℕ) → labels_of (take n cs) (take n ss) ≡ take n (labels_of cs ss)
unfolding labels_of
take-labels zero cs ss = refl
take-labels (suc n) [] ss = refl
take-labels (suc n) (c ∷ cs) [] = refl
take-labels (suc n) (c ∷ cs) (s ∷ ss) = rw (take-labels n cs ss)

no-labels : (cs : List ℕ) → labels_of cs [] ≡ []
unfolding labels_of
no-labels [] = refl
no-labels (c ∷ cs) = refl

drop-labels : (n : ℕ) (cs ss : List ℕ) → labels_of (drop n cs) (drop n ss) ≡ drop n (labels_of cs ss)
unfolding labels_of
drop-labels zero cs ss = refl
drop-labels (suc n) [] ss = refl
drop-labels (suc n) (c ∷ cs) [] = no-labels (drop n cs)
drop-labels (suc n) (c ∷ cs) (s ∷ ss) = drop-labels n cs ss

pub labels-back : (from n : ℕ) (labels : Option Labels) → labels_in (labels_part from n labels) ≡ part from n (labels_in labels)
unfolding part
labels-back from n none = rw (drop-nil {A = Label} from, take-nil {A = Label} n)
labels-back from n (some c) = rw (take-labels n (drop from c.chains) (drop from c.seqs), drop-labels from c.chains c.seqs)
