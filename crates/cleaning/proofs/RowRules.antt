-- Building's rules on the records of some good rows: parents below and once (4, 5), unresolved records (6, 7), labels (9), inbound edges (11, 12).
use mathlib.Core.Path.{◌≡◌, refl, ap, sym, ◌∙◌}
use mathlib.Core.Bool.{true, false, ◌&&◌, not, and-true, and-false}
use mathlib.Core.List.{List, [], ◌∷◌, map}
use mathlib.Core.Option.{Option, none, some}
use Prim.Native.Nat.{ℕ, zero, suc, ◌+◌, ◌*◌, ◌≤◌, ◌<◌, ◌/◌}
use native.Mathlib.Omega.{arith}
use native.Mathlib.Nat.{not-suc-le-zero, le_of_suc-le-suc, zero-add, add-suc, add-zero, mul-zero, div-eq_of_lt-le}
use lib.Dec.{ltb, leb, eqb}
use lib.ListN.{length, get_or, get_elem?, length-map}
use borrow.Author.Tests.{eq-eqb, lt-leb, le-leb, lt-ltb, le-ltb, not-true}
use Rattle.lists.specs.Lists.{all, mem, distinct, up_from, Each}
use Rattle.lists.proofs.Tests.{both, all-of}
use Rattle.lists.proofs.Each.{each-imp, each_both}
use Rattle.lists.proofs.Filters.{each_below, map-places}
use Rattle.lists.proofs.Once.{or-is-false, eqb-sym}
use Rattle.columns.specs.Limits.{Served, reference_kinds}
use Rattle.columns.specs.Refusal.{refuse, first_in}
use Rattle.columns.specs.EdgeSet.{event_of}
use Rattle.columns.specs.Reading.{Label, labels_of}
use Rattle.columns.specs.Building.{greater, has, record_count, parent_rules, slot_rules, in_file, unresolved_rules, seqs_rise, labels_rules, inbound_rules}
use Rattle.columns.specs.declared.refusal.Refusal.{Refusal}
use Rattle.columns.specs.declared.refusal.Refusal.TheVariants.{ParentNotEarlier, ParentTwice, UnresolvedChild, UnresolvedKind, LabelCount, SeqNotRising, InboundChild, InboundParent}
use Rattle.archive.specs.File.{Unresolved}
use Rattle.cleaning.specs.Writing.{Numbered, Edge, label_columns, slots_of_rows}
use Rattle.cleaning.proofs.Good.{GoodLists}
use Rattle.columns.proofs.FirstBroken.{none_of, none_in, passes, fails}
use Rattle.columns.proofs.Told.{last-rule}
use Rattle.lists.proofs.From.{EachFrom, from-eq, from-append, from_each}
use Rattle.cleaning.proofs.Numbers.{Counted}
use Rattle.cleaning.proofs.Inbound.{Inbound}
use Rattle.cleaning.proofs.Followed.{labels-columns}
use Rattle.cleaning.proofs.FirstRules.{skip, first-ext, first-map, first-all}

-- ── 4 and 5 ──────────────────────────────────────────────────────────────────────────────────

-- numbers of a list without p are not p
not_named : (p : ℕ) (qs : List ℕ) → mem p qs ≡ false → Each (λ q. eqb q p ≡ false) qs
unfolding mem
not_named p [] m = tt
not_named p (q ∷ qs) m = let o = or-is-false (eqb p q) (mem p qs) m in (eqb-sym q p ∙ o.0, not_named p qs o.1)

parents-none : (event : ℕ) (seen ps : List ℕ) → Each (λ p. p < event) ps → distinct ps ≡ true → Each (λ p. mem p seen ≡ false) ps → parent_rules event seen ps ≡ none
unfolding parent_rules distinct mem
parents-none event seen [] l d h = refl
parents-none event seen (p ∷ ps) l d h =
    let r = both (not (mem p ps)) (distinct ps) d in
    none_of (refuse ParentNotEarlier (leb event p) ∷ refuse ParentTwice (mem p seen) ∷ parent_rules event (p ∷ seen) ps ∷ []) (
      fails ParentNotEarlier (leb event p) (lt-leb event p l.0),
      (
        fails ParentTwice (mem p seen) h.0,
        (
          parents-none event (p ∷ seen) ps l.1 r.1
              (each-imp (λ q. (eqb q p ≡ false) × (mem q seen ≡ false)) (λ q. mem q (p ∷ seen) ≡ false) ps (λ q b. rw b.0 b.1)
              (each_both (λ q. eqb q p ≡ false) (λ q. mem q seen ≡ false) ps (not_named p ps (not-true (mem p ps) r.0)) h.1)),
          tt,
        ),
      ),
    )

unseen : (ps : List ℕ) → Each (λ p. mem p [] ≡ false) ps
unfolding mem
unseen [] = tt
unseen (p ∷ ps) = (refl, unseen ps)

-- a slot's parents pass
abbrev SlotPasses : (K : ℕ) → ℕ → ℕ → List ℕ → Type 0
SlotPasses K first slot ps = parent_rules (event_of K first slot) [] ps ≡ none

slots-none : (K : ℕ) (served : Served K) (first slot : ℕ) (lists : List (List ℕ)) → EachFrom (SlotPasses K first) slot lists → slot_rules K first slot lists ≡ none
unfolding slot_rules
slots-none K served first slot [] h = refl
slots-none K served first slot (ps ∷ lists) h =
    none_of (parent_rules (event_of K first slot) [] ps ∷ slot_rules K first (suc slot) lists ∷ []) (h.0, (slots-none K served first (suc slot) lists h.1, tt))

rows_pass : (K : ℕ) (served : Served K) (first i : ℕ) (rs : List Numbered) → Counted (first + i) rs → Each (λ r. GoodLists K r.number r.row.parents) rs
    → EachFrom (SlotPasses K first) (K * i) (slots_of_rows rs)
unfolding slots_of_rows
rows_pass K served first i [] c h = tt
rows_pass K served first i (r ∷ rs) c h =
    from-append (SlotPasses K first) (K * i) r.row.parents (slots_of_rows rs)
    (from_each (SlotPasses K first) (λ ps. (distinct ps ≡ true) × Each (λ p. p < r.number) ps) (K * i + K) (K * i) r.row.parents
    (λ slot ps a b q. let row : slot / K ≡ i = div-eq_of_lt-le K (omega arith) (omega arith) in
    let e : event_of K first slot ≡ r.number = rw row (omega (arith, c.0)) in rw e (parents-none r.number [] ps q.1 q.0 (unseen ps)))
    (omega (arith, h.0.each_kind))
    (each_both (λ ps. distinct ps ≡ true) (λ ps. Each (λ p. p < r.number) ps) r.row.parents h.0.once h.0.below))
    (from-eq (SlotPasses K first) (K * suc i) (K * i + length r.row.parents) (slots_of_rows rs) (omega (arith, h.0.each_kind))
    (rows_pass K served first (suc i) rs (rw (add-suc first i) c.1) h.1))

pub row-slots-none : (K : ℕ) (served : Served K) (first : ℕ) (rs : List Numbered) → Counted first rs → Each (λ r. GoodLists K r.number r.row.parents) rs
    → slot_rules K first 0 (slots_of_rows rs) ≡ none
row-slots-none K served first rs c h = slots-none K served first 0 (slots_of_rows rs) (rw (mul-zero K) at (rows_pass K served first 0 rs (rw (add-zero first) c) h))

-- ── 9 and 10 ─────────────────────────────────────────────────────────────────────────────────

-- of as many labels as rows only 10 is tested
pub labels-rules : (n : ℕ) (ls : List Label) → length ls ≡ n → labels_rules n (some (label_columns ls)) ≡ refuse SeqNotRising (not (seqs_rise [] ls))
unfolding label_columns
labels-rules n ls e =
    let chains : List ℕ = map (λ l. l.chain) ls in
    let seqs : List ℕ = map (λ l. l.seq) ls in
    let counts : eqb (length chains) n && eqb (length seqs) n ≡ true =
    rw (eq-eqb (length chains) n (length-map ls (λ l. l.chain) ∙ e), eq-eqb (length seqs) n (length-map ls (λ l. l.seq) ∙ e)) in
    let rest : List (Option Refusal) = refuse SeqNotRising (not (seqs_rise [] (labels_of chains seqs))) ∷ [] in
    skip rest rest (passes LabelCount (eqb (length chains) n && eqb (length seqs) n) counts) refl
    ∙ last-rule (refuse SeqNotRising (not (seqs_rise [] (labels_of chains seqs)))) ∙ ap (λ ks. refuse SeqNotRising (not (seqs_rise [] ks))) (labels-columns ls)

-- ── records in parallel columns ──────────────────────────────────────────────────────────────

get-map : {A : Type 0} (f : A → ℕ) (xs : List A) (i : ℕ) (d : A) → i < length xs → get_elem? (map f xs) i ≡ some (f (get_or xs i d))
get-map f [] i d l = absurd (not-suc-le-zero l)
get-map f (x ∷ xs) zero d l = refl
get-map f (x ∷ xs) (suc i) d l = get-map f xs i d (le_of_suc-le-suc l)

greater-same : (n : ℕ) → greater n n ≡ n
unfolding greater
greater-same n = rw (le-ltb n n (omega arith))

-- some records by their columns
module _ {A : Type 0} (d : A) (rule : Option ℕ → Option ℕ → Option ℕ → Option Refusal) (f g h : A → ℕ) (xs : List A) where
  count-columns : record_count (map f xs) (map g xs) (map h xs) ≡ length xs
  count-columns = rw (length-map xs f, length-map xs g, length-map xs h, greater-same (length xs), greater-same (length xs))

  -- the rules of the columns are those of the records
  columns-first : first_in (λ i. rule (get_elem? (map f xs) i) (get_elem? (map g xs) i) (get_elem? (map h xs) i)) (up_from 0 (record_count (map f xs) (map g xs) (map h xs)))
      ≡ first_in (λ x. rule (some (f x)) (some (g x)) (some (h x))) xs
  columns-first =
      let at : ℕ → A = λ i. get_or xs i d in
      let rules : A → Option Refusal = λ x. rule (some (f x)) (some (g x)) (some (h x)) in
      rw count-columns
      (first-ext (λ i. rule (get_elem? (map f xs) i) (get_elem? (map g xs) i) (get_elem? (map h xs) i)) (λ i. rules (at i)) (up_from 0 (length xs))
      (each_below _ (length xs) (λ i l. rw (get-map f xs i d l, get-map g xs i d l, get-map h xs i d l)))
      ∙ sym (first-map rules at (up_from 0 (length xs))) ∙ ap (first_in rules) (map-places at 0 xs d (λ j l. ap at (zero-add j))))

module _ (first end n : ℕ) where
  pub in-file : first ≤ n → n < end → in_file first end n ≡ true
  unfolding in_file
  in-file l h = rw (le-leb first n l) (lt-ltb n end h)

  pub before-file : n < first → in_file first end n ≡ false
  unfolding in_file
  before-file l = rw (lt-leb first n l)

  pub past-file : end ≤ n → in_file first end n ≡ false
  unfolding in_file
  past-file l = rw (le-ltb n end l) (and-false (leb first n))

module _ (K : ℕ) (served : Served K) (first end : ℕ) where
  -- the rules of unresolved records whose children are in the file are one test of their kinds
  pub unresolved-kinds : (us : List Unresolved) → Each (λ u. in_file first end u.child ≡ true) us
      → first_in (λ i. unresolved_rules first end (get_elem? (map (λ u. u.child) us) i) (get_elem? (map (λ u. u.kind) us) i) (get_elem? (map (λ u. 0) us) i))
      (up_from 0 (record_count (map (λ u. u.child) us) (map (λ u. u.kind) us) (map (λ u. 0) us)))
      ≡ refuse UnresolvedKind (not (all (λ u. ltb u.kind reference_kinds) us))
  unfolding unresolved_rules has
  unresolved-kinds us h =
      columns-first (record { child = 0; kind = 0; handle = 0 }) (unresolved_rules first end) (λ u. u.child) (λ u. u.kind) (λ u. 0) us
      ∙ first-ext (λ u. unresolved_rules first end (some u.child) (some u.kind) (some 0)) (λ u. refuse UnresolvedKind (not (ltb u.kind reference_kinds))) us
      (each-imp (λ u. in_file first end u.child ≡ true)
      (λ u. unresolved_rules first end (some u.child) (some u.kind) (some 0) ≡ refuse UnresolvedKind (not (ltb u.kind reference_kinds))) us
      (λ u b. skip (refuse UnresolvedKind (not (ltb u.kind reference_kinds && eqb 0 0)) ∷ []) (refuse UnresolvedKind (not (ltb u.kind reference_kinds && eqb 0 0)) ∷ [])
      (passes UnresolvedChild (in_file first end u.child) b) refl
      ∙ last-rule (refuse UnresolvedKind (not (ltb u.kind reference_kinds && eqb 0 0))) ∙ ap (λ b. refuse UnresolvedKind (not b)) (and-true (ltb u.kind reference_kinds))) h)
      ∙ first-all UnresolvedKind (λ u. ltb u.kind reference_kinds) us

  -- an unresolved record that passes
  abbrev pub RecordPasses : Unresolved → Type 0
  RecordPasses u = (first ≤ u.child) × (u.child < end) × (u.kind < reference_kinds)

  pub unresolved-none : (us : List Unresolved) → Each RecordPasses us
      → first_in (λ i. unresolved_rules first end (get_elem? (map (λ u. u.child) us) i) (get_elem? (map (λ u. u.kind) us) i) (get_elem? (map (λ u. 0) us) i))
      (up_from 0 (record_count (map (λ u. u.child) us) (map (λ u. u.kind) us) (map (λ u. 0) us))) ≡ none
  unresolved-none us h =
      unresolved-kinds us (each-imp RecordPasses (λ u. in_file first end u.child ≡ true) us (λ u b. in-file first end u.child b.0 b.1) h)
      ∙ passes UnresolvedKind (all (λ u. ltb u.kind reference_kinds) us)
      (all-of (λ u. ltb u.kind reference_kinds) us (each-imp RecordPasses (λ u. ltb u.kind reference_kinds ≡ true) us (λ u b. lt-ltb u.kind reference_kinds b.2) h))

  pub inbound-none : (es : List Edge) → Each (Inbound K first end) es
      → first_in (λ i. inbound_rules K first end (get_elem? (map (λ e. e.child) es) i) (get_elem? (map (λ e. e.parent) es) i) (get_elem? (map (λ e. e.kind) es) i))
      (up_from 0 (record_count (map (λ e. e.child) es) (map (λ e. e.parent) es) (map (λ e. e.kind) es))) ≡ none
  unfolding inbound_rules has
  inbound-none es h =
      columns-first (record { child = 0; parent = 0; kind = 0 }) (inbound_rules K first end) (λ e. e.child) (λ e. e.parent) (λ e. e.kind) es
      ∙ none_in (λ e. inbound_rules K first end (some e.child) (some e.parent) (some e.kind)) es
      (each-imp (Inbound K first end) (λ e. inbound_rules K first end (some e.child) (some e.parent) (some e.kind) ≡ none) es
      (λ e b. none_of (refuse InboundChild (not (leb end e.child)) ∷ refuse InboundParent (not (in_file first end e.parent && ltb e.kind K)) ∷ []) (
        passes InboundChild (leb end e.child) (le-leb end e.child b.0),
        (
          passes InboundParent (in_file first end e.parent && ltb e.kind K)
              (rw (in-file first end e.parent b.1 b.2, lt-ltb e.kind K b.3)),
          tt,
        ),
      )) h)
