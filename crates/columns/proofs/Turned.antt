-- Edges turned round: a reverse list holds the file's events that name its number, an inbound list the children of the given inbound edges, each in order.
use mathlib.Core.Path.{◌≡◌, refl, sym, ◌∙◌, ap}
use mathlib.Core.Bool.{Bool, true, false, cond, ◌&&◌, false≢true, or-true}
use mathlib.Core.Logic.{inl, inr, ◌↔◌}
use mathlib.Core.List.{List, [], ◌∷◌, map}
use mathlib.Core.Option.{some, none-ne-some, some-injective}
use Prim.Native.Nat.{ℕ, zero, suc, ◌+◌, ◌-◌, ◌*◌, ◌≤◌, ◌<◌}
use native.Mathlib.Omega.{arith}
use lib.Dec.{ltb, eqb}
use lib.ListN.{length, get_or, get_elem?}
use borrow.Author.Tests.{lt-ltb, le-ltb, le-leb, lt-leb, eq-eqb, ltb-true, ltb-false, eqb-true}
use Rattle.lists.specs.Lists.{all, mem, distinct, up_from, Each}
use Rattle.lists.specs.Order.{rising, not_falling, level_above, sort}
use Rattle.lists.proofs.Tests.{tested, both, all-each}
use Rattle.lists.proofs.Each.{each_all, each_map, each-flat}
use Rattle.lists.proofs.Flat.{length-up_from, get_or-up_from, length-map-up_from, get_or-map-up_from}
use Rattle.lists.proofs.Cut.{length-blocks, get_or-blocks}
use Rattle.lists.proofs.Rising.{filter-rising, up_from-rising, distinct-rising, mem-filter, mem-up_from, mem-sort, sort-level}
use Rattle.columns.specs.Questions.{list_of}
use Rattle.columns.specs.Building.{InboundColumns, in_file, children_to, slot_table, naming, reverse_lists, inbound_lists}

-- ── a table of lists ─────────────────────────────────────────────────────────────────────────

-- the lists of one number, a list for each kind
abbrev row : (K : ℕ) → (ℕ → ℕ → List ℕ) → ℕ → List (List ℕ)
row K f n = map (f n) (up_from 0 K)

module _ (K : ℕ) (f : ℕ → ℕ → List ℕ) (first rows : ℕ) where
  row-wide : (n : ℕ) → length (row K f n) ≡ K
  row-wide n = length-map-up_from (f n) 0 K

  pub length-table : length (slot_table K f first rows) ≡ K * rows
  unfolding slot_table
  length-table = length-blocks (row K f) K row-wide (up_from first rows) ∙ ap (λ n. K * n) (length-up_from first rows)

  pub list-table : (n k : ℕ) → first ≤ n → n < first + rows → k < K → list_of K first (slot_table K f first rows) k n ≡ f n k
  unfolding list_of slot_table
  list-table n k l h j =
      let place : get_or (up_from first rows) (n - first) 0 ≡ n = get_or-up_from first rows (n - first) 0 (omega arith) ∙ omega arith in
      rw (
        le-ltb n first l,
        get_or-blocks (row K f) K row-wide (up_from first rows) (n - first) k 0 [] (omega (arith, length-up_from first rows)) j,
        place,
        get_or-map-up_from (f n) 0 K k [] j,
      ) (ap (f n) (omega arith))

  pub each-table : (P : List ℕ → Type 0) → ((n k : ℕ) → P (f n k)) → Each P (slot_table K f first rows)
  unfolding slot_table
  each-table P h =
      each-flat P (row K f) (up_from first rows)
      (each_all (λ n. Each P (row K f n)) (λ n. each_map P (f n) (up_from 0 K) (each_all (λ k. P (f n k)) (h n) (up_from 0 K))) (up_from first rows))

list-before : (K first : ℕ) (lists : List (List ℕ)) (k n : ℕ) → ltb n first ≡ true → list_of K first lists k n ≡ []
unfolding list_of
list-before K first lists k n h = rw h

-- what each list of a table and the empty list are, the list of any number is
list-each : (K : ℕ) (P : List ℕ → Type 0) (first : ℕ) (lists : List (List ℕ)) (k n : ℕ) → P [] → Each P lists → P (list_of K first lists k n)
unfolding list_of
list-each K P first lists k n empty each = go (ltb n first)
  where
    at : (ls : List (List ℕ)) (i : ℕ) → Each P ls → P (get_or ls i [])
    at [] i h = empty
    at (l ∷ ls) zero h = h.0
    at (l ∷ ls) (suc i) h = at ls i h.1

    go : (b : Bool) → P (cond b [] (get_or lists (K * (n - first) + k) []))
    go true = empty
    go false = at lists (K * (n - first) + k) each

-- ── reverse lists ────────────────────────────────────────────────────────────────────────────

module _ (K first rows : ℕ) (lists : List (List ℕ)) (k n : ℕ) where
  -- the reverse list of a number of the file holds the events of the file whose list names the number
  pub turned-events : k < K → first ≤ n → n < first + rows → (e : ℕ)
      → mem e (list_of K first (reverse_lists K first rows lists) k n) ≡ (in_file first (first + rows) e && mem n (list_of K first lists k e))
  unfolding reverse_lists naming in_file
  turned-events j l h e =
      rw (list-table K (naming K first rows lists) first rows n k l h j, mem-filter e (λ event. mem n (list_of K first lists k event)) (up_from first rows), mem-up_from e first rows)

  pub turned : k < K → first ≤ n → n < first + rows → (e : ℕ) → e < first + rows
      → mem e (list_of K first (reverse_lists K first rows lists) k n) ≡ mem n (list_of K first lists k e)
  unfolding in_file mem
  turned j l h e b =
      turned-events j l h e ∙ elim (tested (ltb e first)) [
        | inl t ↦ rw (lt-leb first e (ltb-true e first t), list-before K first lists k e t)
        | inr t ↦ rw (le-leb first e (ltb-false e first t), lt-ltb e (first + rows) b)
      ]

  pub turned_rising : rising (list_of K first (reverse_lists K first rows lists) k n) ≡ true
  unfolding reverse_lists naming rising
  turned_rising =
      list-each K (λ l. rising l ≡ true) first (reverse_lists K first rows lists) k n refl
      (each-table K (naming K first rows lists) first rows (λ l. rising l ≡ true)
      (λ m j. filter-rising (λ event. mem m (list_of K first lists j event)) (up_from first rows) (up_from-rising first rows)))

-- ── inbound lists ────────────────────────────────────────────────────────────────────────────

-- an edge from a child to a parent by a kind stands at a place of the three columns
abbrev pub EdgeIn : List ℕ → List ℕ → List ℕ → ℕ → ℕ → ℕ → Type 0
EdgeIn cs ps ks child parent kind = (i : ℕ) × (get_elem? cs i ≡ some child) × (get_elem? ps i ≡ some parent) × (get_elem? ks i ≡ some kind)

abbrev pub GivenEdge : InboundColumns → ℕ → ℕ → ℕ → Type 0
GivenEdge e child parent kind = EdgeIn e.children e.parents e.kinds_given child parent kind

module _ (child parent kind : ℕ) where
  child-edge : (cs ps ks : List ℕ) → mem child (children_to parent kind cs ps ks) ≡ true → EdgeIn cs ps ks child parent kind
  unfolding children_to mem
  child-edge [] ps ks h = absurd (false≢true h)
  child-edge (c ∷ cs) [] ks h = absurd (false≢true h)
  child-edge (c ∷ cs) (p ∷ ps) [] h = absurd (false≢true h)
  child-edge (c ∷ cs) (p ∷ ps) (k ∷ ks) h =
      let rest = child-edge cs ps ks in
      elim (tested (eqb p parent && eqb k kind)) [
        | inl e ↦ let q = both (eqb p parent) (eqb k kind) e in elim (tested (eqb child c)) [
          | inl f ↦ (0, ap some (sym (eqb-true child c f)), ap some (eqb-true p parent q.0), ap some (eqb-true k kind q.1))
          | inr f ↦ later (rest (rw (e, f) at h))
        ]
        | inr e ↦ later (rest (rw e at h))
      ]
    where
      later : EdgeIn cs ps ks child parent kind → EdgeIn (c ∷ cs) (p ∷ ps) (k ∷ ks) child parent kind
      later d = (suc d.0, d.1, d.2, d.3)

  edge-child : (cs ps ks : List ℕ) (i : ℕ) → get_elem? cs i ≡ some child → get_elem? ps i ≡ some parent → get_elem? ks i ≡ some kind
      → mem child (children_to parent kind cs ps ks) ≡ true
  unfolding children_to mem
  edge-child [] ps ks i a b d = absurd (none-ne-some child a)
  edge-child (c ∷ cs) [] ks i a b d = absurd (none-ne-some parent b)
  edge-child (c ∷ cs) (p ∷ ps) [] i a b d = absurd (none-ne-some kind d)
  edge-child (c ∷ cs) (p ∷ ps) (k ∷ ks) zero a b d =
      rw (eq-eqb p parent (some-injective p parent b), eq-eqb k kind (some-injective k kind d), eq-eqb child c (sym (some-injective c child a)))
  edge-child (c ∷ cs) (p ∷ ps) (k ∷ ks) (suc i) a b d = go (eqb p parent && eqb k kind) (children_to parent kind cs ps ks) (edge-child cs ps ks i a b d)
    where
      go : (t : Bool) (rest : List ℕ) → mem child rest ≡ true → mem child (cond t (c ∷ rest) rest) ≡ true
      go true rest h = rw h (or-true (eqb child c))
      go false rest h = h

module _ (K first rows : ℕ) (e : InboundColumns) (k n : ℕ) where
  -- a number is in the inbound list of a number of the file exactly if such an edge is given
  pub inbound-edges : k < K → first ≤ n → n < first + rows → (c : ℕ) → (mem c (list_of K first (inbound_lists K first rows e) k n) ≡ true) ↔ GivenEdge e c n k
  unfolding inbound_lists
  inbound-edges j l h c =
      rw (
        list-table K (λ number kind. sort (children_to number kind e.children e.parents e.kinds_given)) first rows n k l h j,
        mem-sort c (children_to n k e.children e.parents e.kinds_given),
      )
      (child-edge c n k e.children e.parents e.kinds_given, λ g. edge-child c n k e.children e.parents e.kinds_given g.0 g.1 g.2 g.3)

  pub inbound-level : not_falling (list_of K first (inbound_lists K first rows e) k n) ≡ true
  unfolding inbound_lists not_falling level_above
  inbound-level =
      list-each K (λ l. not_falling l ≡ true) first (inbound_lists K first rows e) k n refl
      (each-table K _ first rows (λ l. not_falling l ≡ true) (λ m j. sort-level (children_to m j e.children e.parents e.kinds_given)))

  -- where no edge is given twice the list rises
  pub inbound-rising : all distinct (inbound_lists K first rows e) ≡ true → rising (list_of K first (inbound_lists K first rows e) k n) ≡ true
  unfolding distinct
  inbound-rising d =
      distinct-rising (list_of K first (inbound_lists K first rows e) k n) inbound-level
      (list-each K (λ l. distinct l ≡ true) first (inbound_lists K first rows e) k n refl (all-each distinct (inbound_lists K first rows e) d))
