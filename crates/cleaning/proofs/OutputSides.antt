-- The three sets of an output file: every target is on its set's side.
use mathlib.Core.Path.{◌≡◌, sym, subst}
use mathlib.Core.Bool.{Bool, true, ◌&&◌, not}
use mathlib.Core.Logic.{inl, inr}
use mathlib.Core.List.{List, [], ◌∷◌, map}
use Prim.Native.Nat.{ℕ, suc, ◌+◌, ◌-◌, ◌*◌, ◌≤◌, ◌<◌}
use native.Mathlib.Omega.{arith}
use native.Mathlib.Nat.{add-zero, zero-add, mul-zero}
use borrow.Author.Tests.{ltb-true, ltb-false, lt-ltb, le-leb}
use lib.Dec.{ltb, eqb}
use lib.ListN.{length, get_or}
use Rattle.lists.specs.Lists.{filter, mem, up_from, Each}
use Rattle.lists.specs.Order.{sort}
use Rattle.lists.proofs.Slots.{slot_row}
use Rattle.lists.proofs.Tests.{tested}
use Rattle.lists.proofs.Each.{each-imp, each_all, each_both, each_map, each_append, each-flat}
use Rattle.lists.proofs.Pairs.{each-up_from}
use Rattle.columns.specs.Limits.{Served, end64}
use Rattle.columns.specs.EdgeSet.{forward, reverse, inbound, event_of, allowed}
use Rattle.columns.specs.Questions.{list_of}
use Rattle.columns.specs.Building.{InboundColumns, in_file, children_to, naming, reverse_lists, inbound_lists}
use Rattle.columns.proofs.ReadBack.{AllowedFrom}
use Rattle.cleaning.specs.Summary.{Summary}
use Rattle.cleaning.specs.Writing.{Numbered, numbered, group_is, rows_in, first_number, Edge, edges_into, edges_of, inbound_columns, slots_of_rows}
use Rattle.cleaning.proofs.Good.{GoodLists, Good}
use Rattle.lists.proofs.From.{EachFrom, from-eq}
use Rattle.lists.proofs.Filters.{each-filter, filter_passes}
use Rattle.lists.proofs.Once.{each-has}
use Rattle.lists.proofs.Rising.{each-sort}
use Rattle.cleaning.proofs.Numbers.{Counted, numbered-counted, length-numbered, counted-within}
use Rattle.cleaning.proofs.Blocks.{rows_before, rows-first, before-next, before-within}
use Rattle.cleaning.proofs.Inbound.{edge, Inbound, edges-inbound}
use Rattle.cleaning.proofs.Allowed.{OnSide, SideRow, allowed-rows, allowed-table, allowed_at}

-- ── forward lists ────────────────────────────────────────────────────────────────────────────

below-side : (end n : ℕ) (ts : List ℕ) → n < end64 → Each (λ t. t < n) ts → OnSide forward end n ts
unfolding allowed
below-side end n ts l h = each-imp (λ t. t < n) (λ t. (allowed forward end n t ≡ true) × (t < end64)) ts (λ t b. (lt-ltb t n b, omega arith)) h

-- the other way: a target of a forward list is below its number
side-below : (end n t : ℕ) → allowed forward end n t ≡ true → t < n
unfolding allowed
side-below end n t e = ltb-true t n e

module _ (K : ℕ) (served : Served K) (first : ℕ) (rs : List Numbered) (counted : Counted first rs) (fits : first + length rs ≤ end64)
    (good : Each (λ r. GoodLists K r.number r.row.parents) rs) where
  pub forward-side : AllowedFrom K forward first (first + length rs) 0 (slots_of_rows rs)
  unfolding slots_of_rows
  forward-side =
      rw (mul-zero K) at (allowed-rows K served forward first (first + length rs) (λ r. r.row.parents) 0 rs
      (from-eq _ first (first + 0) rs (sym (add-zero first)) (go first rs counted (omega arith) good)))
    where
      go : (n : ℕ) (xs : List Numbered) → Counted n xs → n + length xs ≤ first + length rs → Each (λ r. GoodLists K r.number r.row.parents) xs
          → EachFrom (λ n r. SideRow K forward (first + length rs) n r.row.parents) n xs
      go n [] c l h = tt
      go n (r ∷ xs) c l h =
          let lists = rw c.0 at h.0 in (
            (
              omega arith,
              lists.each_kind,
              each-imp (λ ts. Each (λ t. t < n) ts) (OnSide forward (first + length rs) n) r.row.parents
                  (λ ts b. below-side (first + length rs) n ts (omega arith) b) lists.below,
            ),
            go (suc n) xs c.1 (omega arith) h.1,
          )

-- ── reverse lists ────────────────────────────────────────────────────────────────────────────

module _ (K : ℕ) (served : Served K) (first rows end : ℕ) (lists : List (List ℕ)) (side : AllowedFrom K forward first end 0 lists) where
  -- the entries of an event's list are below the event
  list_below : (k e : ℕ) → k < K → Each (λ t. t < e) (list_of K first lists k e)
  unfolding list_of
  list_below k e h = elim (tested (ltb e first)) [
    | inl q ↦ rw q tt
    | inr q ↦ let l : first ≤ e = ltb-false e first q in
        let same : event_of K first (0 + (K * (e - first) + k)) ≡ e = rw (zero-add (K * (e - first) + k), slot_row K (e - first) k h) (omega arith) in
        let j = K * (e - first) + k in
        rw q (each-imp (λ t. (allowed forward end (event_of K first (0 + j)) t ≡ true) × (t < end64)) (λ t. t < e) (get_or lists j [])
        (λ t s. side-below end e t (subst (λ n. allowed forward end n t ≡ true) same s.0)) (allowed_at K served forward first end 0 lists j side))
  ]

  pub reverse-side : first + rows ≤ end → end ≤ end64 → AllowedFrom K reverse first end 0 (reverse_lists K first rows lists)
  unfolding reverse_lists naming allowed
  reverse-side u b =
      allowed-table K served reverse first end (naming K first rows lists) rows (omega arith)
      (λ n k l h j. each-imp (λ e. ((first ≤ e) × (e < first + rows)) × (mem n (list_of K first lists k e) ≡ true))
      (λ e. (allowed reverse end n e ≡ true) × (e < end64)) (naming K first rows lists n k)
      (λ e w. let after : n < e = each-has (λ t. t < e) n (list_of K first lists k e) (list_below k e j) w.1 in
      (rw (lt-ltb n e after) (lt-ltb e end (omega arith)), omega arith))
      (each_both _ _ (naming K first rows lists n k)
      (each-filter (λ e. mem n (list_of K first lists k e)) (λ e. (first ≤ e) × (e < first + rows)) (up_from first rows) (each-up_from first rows))
      (filter_passes (λ e. mem n (list_of K first lists k e)) (up_from first rows))))

-- ── inbound lists ────────────────────────────────────────────────────────────────────────────

module _ (P : ℕ → Type 0) where
  each-children : (parent kind : ℕ) (cs ps ks : List ℕ) → Each P cs → Each P (children_to parent kind cs ps ks)
  unfolding children_to
  each-children parent kind [] ps ks h = tt
  each-children parent kind (c ∷ cs) [] ks h = tt
  each-children parent kind (c ∷ cs) (p ∷ ps) [] h = tt
  each-children parent kind (c ∷ cs) (p ∷ ps) (k ∷ ks) h = elim (tested (eqb p parent && eqb k kind)) [
    | inl e ↦ rw e (h.0, each-children parent kind cs ps ks h.1)
    | inr e ↦ rw e (each-children parent kind cs ps ks h.1)
  ]

  -- every edge of a row has the row's number as its child
  each-edges : (first end child k : ℕ) (lists : List (List ℕ)) → P child → Each (λ e. P e.child) (edges_into first end child k lists)
  unfolding edges_into
  each-edges first end child k [] h = tt
  each-edges first end child k (ps ∷ lists) h =
      each_append (λ e. P e.child) (map (edge child k) (filter (in_file first end) ps)) (edges_into first end child (suc k) lists)
      (each_map (λ e. P e.child) (edge child k) (filter (in_file first end) ps) (each_all (λ p. P child) (λ p. h) (filter (in_file first end) ps)))
      (each-edges first end child (suc k) lists h)

pub inbound-side : (K : ℕ) (served : Served K) (first rows end : ℕ) (e : InboundColumns) → first + rows ≤ end64 → Each (λ c. (end ≤ c) × (c < end64)) e.children
    → AllowedFrom K inbound first end 0 (inbound_lists K first rows e)
unfolding inbound_lists allowed
inbound-side K served first rows end e b h =
    allowed-table K served inbound first end (λ n k. sort (children_to n k e.children e.parents e.kinds_given)) rows b
    (λ n k l u j. each-sort (λ t. (allowed inbound end n t ≡ true) × (t < end64)) (children_to n k e.children e.parents e.kinds_given)
    (each-children (λ t. (allowed inbound end n t ≡ true) × (t < end64)) n k e.children e.parents e.kinds_given
    (each-imp (λ c. (end ≤ c) × (c < end64)) (λ t. (allowed inbound end n t ≡ true) × (t < end64)) e.children (λ c w. (le-leb end c w.0, w.1)) h)))

-- ── the sets of an output file ───────────────────────────────────────────────────────────────

-- the first number of a group's output file, and one past its last
abbrev pub first_of : Summary → ℕ → ℕ
first_of S g = first_number (rows_in S g)

abbrev pub end_of : Summary → ℕ → ℕ
end_of S g = first_of S g + length (rows_in S g)

module _ (K : ℕ) (served : Served K) (S : Summary) (good : Good K S) (g : ℕ) (l : g < length S.groups) where
  pub end-next : end_of S g ≡ S.start + rows_before S (suc g)
  end-next = omega (arith, rows-first K served S good g l, before-next K served S good g)

  pub end-within : end_of S g ≤ S.start + length S.rows
  end-within = omega (arith, end-next, before-within K served S good (suc g) l)

  -- the children of the edges of other files are past this one
  pub children-past : Each (λ c. (end_of S g ≤ c) × (c < end64)) (inbound_columns (edges_of S g (first_of S g) (end_of S g))).children
  unfolding inbound_columns edges_of numbered
  children-past =
      each_map (λ c. (end_of S g ≤ c) × (c < end64)) (λ e. e.child) edges
      (each-imp (λ e. Inbound K (first_of S g) (end_of S g) e × (e.child < end64)) (λ e. (end_of S g ≤ e.child) × (e.child < end64)) edges (λ e h. (h.0.0, h.1))
      (each_both (Inbound K (first_of S g) (end_of S g)) (λ e. e.child < end64) edges (rw (end-next, rows-first K served S good g l) (edges-inbound K served S good g))
      (each-flat (λ e. e.child < end64) (λ r. edges_into (first_of S g) (end_of S g) r.number 0 r.row.parents) (filter other (numbered S))
      (each-imp (λ r. r.number < end64) _ (filter other (numbered S))
      (λ r h. each-edges (λ c. c < end64) (first_of S g) (end_of S g) r.number 0 r.row.parents h)
      (each-filter other (λ r. r.number < end64) (numbered S) numbers)))))
    where
      edges : List Edge
      edges = edges_of S g (first_of S g) (end_of S g)

      other : Numbered → Bool
      other r = not (group_is g r)

      numbers : Each (λ r. r.number < end64) (numbered S)
      numbers =
          each-imp (λ r. (S.start ≤ r.number) × (r.number < S.start + length (numbered S))) (λ r. r.number < end64) (numbered S)
          (λ r w. omega (arith, length-numbered S.start S.rows, good.numbers))
          (counted-within S.start (numbered S) (numbered-counted S.start S.rows))
