-- The lists of a built granule are on their sets' sides.
use mathlib.Core.Path.{◌≡◌, subst}
use mathlib.Core.Bool.{true, ◌&&◌, false≢true}
use mathlib.Core.Logic.{inl, inr}
use mathlib.Core.List.{List, [], ◌∷◌}
use mathlib.Core.Option.{none}
use Prim.Native.Nat.{ℕ, zero, suc, ◌+◌, ◌-◌, ◌*◌, ◌/◌, ◌≤◌, ◌<◌}
use native.Mathlib.Omega.{arith}
use lib.Dec.{ltb, leb, eqb}
use lib.ListN.{length, get_or, take, drop}
use borrow.Author.Tests.{ltb-true, ltb-false, leb-false, lt-ltb, le-leb}
use Rattle.lists.specs.Lists.{mem, up_from, part, Each}
use Rattle.lists.specs.Order.{sort}
use Rattle.lists.proofs.Tests.{tested}
use Rattle.lists.proofs.Each.{each-imp, each_both}
use Rattle.lists.proofs.Pairs.{each-up_from}
use Rattle.lists.proofs.Filters.{each-filter, filter_passes}
use Rattle.lists.proofs.Once.{each-has}
use Rattle.lists.proofs.Rising.{each-sort}
use Rattle.columns.specs.Limits.{kinds, end64}
use Rattle.columns.specs.EdgeSet.{forward, reverse, inbound, event_of, allowed}
use Rattle.columns.specs.Questions.{list_of}
use Rattle.columns.specs.Building.{children_to, slot_table, naming, parent_rules, slot_rules}
use Rattle.columns.specs.declared.refusal.Refusal.TheVariants.{ParentNotEarlier}
use Rattle.columns.proofs.FirstBroken.{each_none, not-refused}
use Rattle.columns.proofs.ReadBack.{AllowedFrom}

-- the targets of a number are on the set's side
abbrev pub OnSide : ℕ → ℕ → ℕ → List ℕ → Type 0
OnSide set end n ts = Each (λ t. (allowed set end n t ≡ true) × (t < end64)) ts

-- ── a table, and a part of a table ───────────────────────────────────────────────────────────

module _ (set first end : ℕ) where
  table-from : (f : ℕ → ℕ → List ℕ) (m n : ℕ) → first + m + n ≤ end64 → ((p k : ℕ) → first + m ≤ p → p < first + m + n → k < kinds → OnSide set end p (f p k))
      → AllowedFrom kinds set first end (2 * m) (slot_table kinds f (first + m) n)
  unfolding slot_table up_from
  table-from f m zero b h = tt
  table-from f m (suc n) b h =
      let x : 2 * m / 2 ≡ m = omega arith in
      let y : suc (2 * m) / 2 ≡ m = omega arith in
      let z : suc (suc (2 * m)) ≡ 2 * suc m = omega arith in
      let w : suc (first + m) ≡ first + suc m = omega arith in
      rw (x, y, z, w) (
        omega arith,
        h (first + m) 0 (omega arith) (omega arith) (omega arith),
        (
          omega arith,
          h (first + m) 1 (omega arith) (omega arith) (omega arith),
          table-from f (suc m) n (omega arith) (λ p k a b c. h p k (omega arith) (omega arith) c),
        ),
      )

  pub table-side : (f : ℕ → ℕ → List ℕ) (n : ℕ) → first + n ≤ end64 → ((p k : ℕ) → first ≤ p → p < first + n → k < kinds → OnSide set end p (f p k))
      → AllowedFrom kinds set first end 0 (slot_table kinds f first n)
  table-side f n b h =
      let z : first + 0 ≡ first = omega arith in
      rw z at (table-from f 0 n (omega arith) (λ p k l u c. h p k (omega arith) (omega arith) c))

  drop-side : (i slot : ℕ) (lists : List (List ℕ)) → AllowedFrom kinds set first end slot lists → AllowedFrom kinds set first end (slot + i) (drop i lists)
  drop-side zero slot lists h = let z : slot + 0 ≡ slot = omega arith in rw z h
  drop-side (suc i) slot [] h = tt
  drop-side (suc i) slot (ts ∷ lists) h = let z : slot + suc i ≡ suc slot + i = omega arith in rw z (drop-side i (suc slot) lists h.2)

  take-side : (i slot : ℕ) (lists : List (List ℕ)) → AllowedFrom kinds set first end slot lists → AllowedFrom kinds set first end slot (take i lists)
  take-side zero slot lists h = tt
  take-side (suc i) slot [] h = tt
  take-side (suc i) slot (ts ∷ lists) h = (h.0, h.1, take-side i (suc slot) lists h.2)

  moved : (from slot : ℕ) (lists : List (List ℕ)) → AllowedFrom kinds set first end (2 * from + slot) lists → AllowedFrom kinds set (first + from) end slot lists
  moved from slot [] h = tt
  moved from slot (ts ∷ lists) h =
      let z : event_of kinds first (2 * from + slot) ≡ event_of kinds (first + from) slot = omega arith in
      let y : suc (2 * from + slot) ≡ 2 * from + suc slot = omega arith in
      (rw z at h.0, subst (λ e. OnSide set end e ts) z h.1, moved from (suc slot) lists (rw y at h.2))

  pub part-side : (from n : ℕ) (lists : List (List ℕ)) → AllowedFrom kinds set first end 0 lists → AllowedFrom kinds set (first + from) end 0 (part (2 * from) (2 * n) lists)
  unfolding part
  part-side from n lists h =
      let z : 0 + 2 * from ≡ 2 * from + 0 = omega arith in
      moved from 0 (take (2 * n) (drop (2 * from) lists)) (rw z at (take-side (2 * n) (0 + 2 * from) (drop (2 * from) lists) (drop-side (2 * from) 0 lists h)))

  side-at : (slot : ℕ) (lists : List (List ℕ)) (j : ℕ) → AllowedFrom kinds set first end slot lists → OnSide set end (event_of kinds first (slot + j)) (get_or lists j [])
  side-at slot [] j h = tt
  side-at slot (ts ∷ lists) zero h = let z : slot + 0 ≡ slot = omega arith in rw z h.1
  side-at slot (ts ∷ lists) (suc j) h = let z : slot + suc j ≡ suc slot + j = omega arith in rw z (side-at (suc slot) lists j h.2)

-- ── forward ──────────────────────────────────────────────────────────────────────────────────

parents-side : (end event : ℕ) (seen ps : List ℕ) → event < end64 → parent_rules event seen ps ≡ none → OnSide forward end event ps
unfolding parent_rules allowed
parents-side end event seen [] b e = tt
parents-side end event seen (p ∷ ps) b e =
    let h = each_none _ e in
    let below : p < event = leb-false event p (not-refused ParentNotEarlier (leb event p) h.0) in
    ((lt-ltb p event below, omega arith), parents-side end event (p ∷ seen) ps b h.1.1.0)

pub forward-side : (first rows end slot : ℕ) (lists : List (List ℕ)) → first + rows < end64 → slot + length lists ≤ 2 * rows → slot_rules kinds first slot lists ≡ none
    → AllowedFrom kinds forward first end slot lists
unfolding slot_rules
forward-side first rows end slot [] b l e = tt
forward-side first rows end slot (ps ∷ lists) b l e =
    let h = each_none _ e in
    let small : event_of kinds first slot < end64 = omega arith in
    (small, parents-side end (event_of kinds first slot) [] ps small h.0, forward-side first rows end (suc slot) lists b (omega arith) h.1.0)

-- ── reverse ──────────────────────────────────────────────────────────────────────────────────

module _ (first rows end : ℕ) (lists : List (List ℕ)) (side : AllowedFrom kinds forward first end 0 lists) where
  -- what an event's list names is below the event
  named-below : (k e p : ℕ) → k < kinds → mem p (list_of kinds first lists k e) ≡ true → p < e
  unfolding list_of allowed mem
  named-below k e p h m = elim (tested (ltb e first)) [
    | inl q ↦ absurd (false≢true (rw q at m))
    | inr q ↦ let l : first ≤ e = ltb-false e first q in
        let j = kinds * (e - first) + k in
        let same : event_of kinds first (0 + j) ≡ e = omega arith in
        ltb-true p e (each-has (λ t. (allowed forward end e t ≡ true) × (t < end64)) p (get_or lists j [])
        (subst (λ n. OnSide forward end n (get_or lists j [])) same (side-at forward first end 0 lists j side)) (rw q at m)).0
  ]

  pub reverse-side : first + rows ≤ end → end ≤ end64 → (p k : ℕ) → k < kinds → OnSide reverse end p (naming kinds first rows lists p k)
  unfolding naming allowed
  reverse-side u b p k j =
      each-imp (λ e. ((first ≤ e) × (e < first + rows)) × (mem p (list_of kinds first lists k e) ≡ true)) (λ e. (allowed reverse end p e ≡ true) × (e < end64)) (naming kinds first rows lists p k)
      (λ e w. let after : p < e = named-below k e p j w.1 in (rw (lt-ltb p e after) (lt-ltb e end (omega arith)), omega arith))
      (each_both _ _ (naming kinds first rows lists p k)
      (each-filter (λ e. mem p (list_of kinds first lists k e)) (λ e. (first ≤ e) × (e < first + rows)) (up_from first rows) (each-up_from first rows))
      (filter_passes (λ e. mem p (list_of kinds first lists k e)) (up_from first rows)))

-- ── inbound ──────────────────────────────────────────────────────────────────────────────────

module _ (P : ℕ → Type 0) where
  children-each : (parent kind : ℕ) (cs ps ks : List ℕ) → Each P cs → Each P (children_to parent kind cs ps ks)
  unfolding children_to
  children-each parent kind [] ps ks h = tt
  children-each parent kind (c ∷ cs) [] ks h = tt
  children-each parent kind (c ∷ cs) (p ∷ ps) [] h = tt
  children-each parent kind (c ∷ cs) (p ∷ ps) (k ∷ ks) h = elim (tested (eqb p parent && eqb k kind)) [
    | inl e ↦ rw e (h.0, children-each parent kind cs ps ks h.1)
    | inr e ↦ rw e (children-each parent kind cs ps ks h.1)
  ]

pub inbound-side : (end p k : ℕ) (cs ps ks : List ℕ) → Each (λ c. (end ≤ c) × (c < end64)) cs → OnSide inbound end p (sort (children_to p k cs ps ks))
unfolding allowed
inbound-side end p k cs ps ks h =
    each-sort (λ t. (allowed inbound end p t ≡ true) × (t < end64)) (children_to p k cs ps ks)
    (children-each (λ t. (allowed inbound end p t ≡ true) × (t < end64)) p k cs ps ks
    (each-imp (λ c. (end ≤ c) × (c < end64)) (λ t. (allowed inbound end p t ≡ true) × (t < end64)) cs (λ c w. (le-leb end c w.0, w.1)) h))
