-- No inbound edge of an output file is given twice: a row's list names a parent at most once, and rows have different numbers.
use mathlib.Core.Path.{◌≡◌, refl, ap, ◌∙◌}
use mathlib.Core.Bool.{Bool, true, false, cond, ◌&&◌, not, and-false}
use mathlib.Core.Logic.{inl, inr}
use mathlib.Core.List.{List, [], ◌∷◌, ◌++◌, map, append-nil, map-append}
use Prim.Native.Nat.{ℕ, suc, ◌+◌, ◌-◌, ◌≤◌, ◌<◌}
use native.Mathlib.Omega.{arith}
use lib.Dec.{eqb}
use lib.ListN.{length, get_or}
use borrow.Author.Tests.{eqb-true, eqb-false, ne_eqb, not-true}
use Rattle.columns.specs.Limits.{Served}
use Rattle.lists.specs.Lists.{flat, all, filter, mem, distinct, Each}
use Rattle.lists.specs.Order.{sort}
use Rattle.lists.proofs.Tests.{tested, both, all-of}
use Rattle.lists.proofs.Each.{each-flat, each-imp}
use Rattle.lists.proofs.Flat.{flat-ext}
use Rattle.lists.proofs.Once.{or-is-false, eqb-sym}
use Rattle.lists.proofs.Rising.{distinct-sort}
use Rattle.columns.specs.Building.{in_file, children_to, inbound_lists}
use Rattle.columns.proofs.Turned.{each-table}
use Rattle.cleaning.specs.Summary.{Summary}
use Rattle.cleaning.specs.Writing.{Numbered, numbered, group_is, Edge, edges_into, edges_of, inbound_columns}
use Rattle.cleaning.proofs.Good.{GoodLists, Good}
use Rattle.lists.proofs.Filters.{each-filter, filter-append}
use Rattle.cleaning.proofs.Numbers.{Counted, numbered-counted, lists-numbered, counted-within}
use Rattle.cleaning.proofs.Groups.{others-not-mem}
use Rattle.cleaning.proofs.Inbound.{edge}

-- ── the children of edges ────────────────────────────────────────────────────────────────────

abbrev pub children_of : ℕ → ℕ → List Edge → List ℕ
children_of n k es = map (λ e. e.child) (filter (λ e. eqb e.parent n && eqb e.kind k) es)

pub children-to : (n k : ℕ) (es : List Edge) → children_to n k (map (λ e. e.child) es) (map (λ e. e.parent) es) (map (λ e. e.kind) es) ≡ children_of n k es
unfolding children_to filter
children-to n k [] = refl
children-to n k (e ∷ es) = elim (tested (eqb e.parent n && eqb e.kind k)) [
  | inl t ↦ rw (t, children-to n k es)
  | inr t ↦ rw (t, children-to n k es)
]

children-append : (n k : ℕ) (xs ys : List Edge) → children_of n k (xs ++ ys) ≡ children_of n k xs ++ children_of n k ys
children-append n k xs ys =
    let p : Edge → Bool = λ e. eqb e.parent n && eqb e.kind k in
    rw (filter-append p xs ys) (map-append (λ e. e.child) (filter p xs) (filter p ys))

pub children-flat : {A : Type 0} (n k : ℕ) (f : A → List Edge) (xs : List A) → children_of n k (flat f xs) ≡ flat (λ x. children_of n k (f x)) xs
unfolding filter
children-flat n k f [] = refl
children-flat n k f (x ∷ xs) = rw (children-append n k (f x) (flat f xs), children-flat n k f xs)

-- ── one row ──────────────────────────────────────────────────────────────────────────────────

-- c once, or nothing
abbrev pub only : Bool → ℕ → List ℕ
only b c = cond b (c ∷ []) []

module _ (n k c kind : ℕ) where
  -- edges of another kind
  none-of-kind : (kind ≡ k → ⊥) → (ps : List ℕ) → children_of n k (map (edge c kind) ps) ≡ []
  unfolding filter
  none-of-kind d [] = refl
  none-of-kind d (p ∷ ps) = rw (ne_eqb kind k d, and-false (eqb p n)) (none-of-kind d ps)

  module _ (q : ℕ → Bool) where
    none_named : (ps : List ℕ) → mem n ps ≡ false → children_of n k (map (edge c kind) (filter q ps)) ≡ []
    unfolding filter mem
    none_named [] m = refl
    none_named (p ∷ ps) m =
        let o = or-is-false (eqb n p) (mem n ps) m in
        elim (tested (q p)) [ inl e ↦ rw (e, eqb-sym p n, o.0) (none_named ps o.1) | inr e ↦ rw e (none_named ps o.1) ]

    -- edges of the kind: the child once if the number is named
    one-named : eqb kind k ≡ true → (ps : List ℕ) → distinct ps ≡ true → children_of n k (map (edge c kind) (filter q ps)) ≡ only (q n && mem n ps) c
    unfolding filter distinct mem
    one-named t [] d = rw (and-false (q n))
    one-named t (p ∷ ps) d =
        let r = both (not (mem p ps)) (distinct ps) d in
        elim (tested (eqb n p)) [
          | inl e ↦ let s : n ≡ p = eqb-true n p e in
              let rest = none_named ps (rw (← s) at (not-true (mem p ps) r.0)) in
              elim (tested (q p)) [
                | inl f ↦ rw (f, eqb-sym p n, e, t, rest, s, f)
                | inr f ↦ rw (f, e, rest, s, f)
              ]
          | inr e ↦ elim (tested (q p)) [
            | inl f ↦ rw (f, eqb-sym p n, e) (one-named t ps r.1)
            | inr f ↦ rw (f, e) (one-named t ps r.1)
          ]
        ]

module _ (n k first end c : ℕ) where
  -- edges of later kinds
  none-later : (kind : ℕ) (lists : List (List ℕ)) → k < kind → children_of n k (edges_into first end c kind lists) ≡ []
  unfolding edges_into filter
  none-later kind [] l = refl
  none-later kind (ps ∷ lists) l =
      rw (
        children-append n k (map (edge c kind) (filter (in_file first end) ps)) (edges_into first end c (suc kind) lists),
        none-of-kind n k c kind (λ e. omega arith) (filter (in_file first end) ps),
        none-later (suc kind) lists (omega arith),
      )

  -- of a row's edges from a kind on: the child once if its list of kind k names the number
  row-child : (kind : ℕ) (lists : List (List ℕ)) → kind ≤ k → Each (λ ps. distinct ps ≡ true) lists
      → children_of n k (edges_into first end c kind lists) ≡ only (in_file first end n && mem n (get_or lists (k - kind) [])) c
  unfolding edges_into filter mem
  row-child kind [] l h = rw (and-false (in_file first end n))
  row-child kind (ps ∷ lists) l h =
      rw (children-append n k (map (edge c kind) (filter (in_file first end) ps)) (edges_into first end c (suc kind) lists))
      (elim (tested (eqb kind k)) [
        | inl e ↦ let z : k - kind ≡ 0 = omega (arith, eqb-true kind k e) in
            rw (none-later (suc kind) lists (omega (arith, eqb-true kind k e)), append-nil (children_of n k (map (edge c kind) (filter (in_file first end) ps))), z)
            (one-named n k c kind (in_file first end) e ps h.0)
        | inr e ↦ let z : k - kind ≡ suc (k - suc kind) = omega (arith, eqb-false kind k e) in
            rw (none-of-kind n k c kind (eqb-false kind k e) (filter (in_file first end) ps), z)
            (row-child (suc kind) lists (omega (arith, eqb-false kind k e)) h.1)
      ])

  pub one-child : (lists : List (List ℕ)) → Each (λ ps. distinct ps ≡ true) lists
      → children_of n k (edges_into first end c 0 lists) ≡ only (in_file first end n && mem n (get_or lists k [])) c
  one-child lists h = row-child 0 lists (omega arith) h ∙ ap (λ j. only (in_file first end n && mem n (get_or lists j [])) c) (omega arith)

-- ── all rows ─────────────────────────────────────────────────────────────────────────────────

-- each number below those that follow
abbrev Risen : List Numbered → Type 0
Risen [] = Unit {0}
Risen (r ∷ rs) = Each (λ s. r.number < s.number) rs × Risen rs

risen-counted : (n : ℕ) (rs : List Numbered) → Counted n rs → Risen rs
risen-counted n [] h = tt
risen-counted n (r ∷ rs) h = (
  each-imp (λ s. (suc n ≤ s.number) × (s.number < suc n + length rs)) (λ s. r.number < s.number) rs (λ s b. omega (arith, h.0)) (counted-within (suc n) rs h.1),
  risen-counted (suc n) rs h.1,
)

risen-filter : (p : Numbered → Bool) (rs : List Numbered) → Risen rs → Risen (filter p rs)
unfolding filter
risen-filter p [] h = tt
risen-filter p (r ∷ rs) h = elim (tested (p r)) [
  | inl e ↦ rw e (each-filter p (λ s. r.number < s.number) rs h.0, risen-filter p rs h.1)
  | inr e ↦ rw e (risen-filter p rs h.1)
]

-- of rows whose numbers rise, those that pass a test
distinct-flat : (p : Numbered → Bool) (rs : List Numbered) → Risen rs → distinct (flat (λ r. only (p r) r.number) rs) ≡ true
unfolding distinct
distinct-flat p [] h = refl
distinct-flat p (r ∷ rs) h = elim (tested (p r)) [
  | inl e ↦ rw (e, others-not-mem r.number (flat (λ s. only (p s) s.number) rs) later) (distinct-flat p rs h.1)
  | inr e ↦ rw e (distinct-flat p rs h.1)
]
  where
    later : Each (λ x. r.number ≡ x → ⊥) (flat (λ s. only (p s) s.number) rs)
    later = each-flat (λ x. r.number ≡ x → ⊥) (λ s. only (p s) s.number) rs
        (each-imp (λ s. r.number < s.number) (λ s. Each (λ x. r.number ≡ x → ⊥) (only (p s) s.number)) rs
        (λ s b. elim (tested (p s)) [ inl e ↦ rw e ((λ c. omega arith), tt) | inr e ↦ rw e tt ]) h.0)

module _ (K : ℕ) (served : Served K) (S : Summary) (good : Good K S) (g first end : ℕ) where
  children-distinct : (n k : ℕ) → distinct (children_of n k (edges_of S g first end)) ≡ true
  unfolding edges_of numbered
  children-distinct n k =
      let rs : List Numbered = filter (λ r. not (group_is g r)) (numbered S) in
      let f : Numbered → List Edge = λ r. edges_into first end r.number 0 r.row.parents in
      let names : Numbered → Bool = λ r. in_file first end n && mem n (get_or r.row.parents k []) in
      rw (
        children-flat n k f rs,
        flat-ext (λ r. children_of n k (f r)) (λ r. only (names r) r.number) rs
            (each-filter (λ r. not (group_is g r)) (λ r. children_of n k (f r) ≡ only (names r) r.number) (numbered S)
            (each-imp (λ r. GoodLists K r.number r.row.parents) (λ r. children_of n k (f r) ≡ only (names r) r.number) (numbered S)
            (λ r b. one-child n k first end r.number r.row.parents b.once) (lists-numbered K served S.start S.rows good.lists))),
      )
      (distinct-flat names rs
      (risen-filter (λ r. not (group_is g r)) (numbered S) (risen-counted S.start (numbered S) (numbered-counted S.start S.rows))))

  pub edges-once : (low rows : ℕ) → all distinct (inbound_lists K low rows (inbound_columns (edges_of S g first end))) ≡ true
  unfolding inbound_lists inbound_columns
  edges-once low rows =
      let es : List Edge = edges_of S g first end in
      let f : ℕ → ℕ → List ℕ = λ n k. sort (children_to n k (map (λ e. e.child) es) (map (λ e. e.parent) es) (map (λ e. e.kind) es)) in
      all-of distinct (inbound_lists K low rows (inbound_columns es))
      (each-table K f low rows (λ l. distinct l ≡ true)
      (λ n k. distinct-sort (children_to n k (map (λ e. e.child) es) (map (λ e. e.parent) es) (map (λ e. e.kind) es))
      ∙ ap distinct (children-to n k es) ∙ children-distinct n k))
