-- The inbound edges of an output file: each comes from a row past the file's end to a number of the file, and no edge is given twice.
use mathlib.Core.Path.{◌≡◌, refl, sym, subst}
use mathlib.Core.Bool.{Bool, true, false, not}
use mathlib.Core.Logic.{inl, inr}
use mathlib.Core.List.{List, [], ◌∷◌, map}
use Prim.Native.Nat.{ℕ, suc, ◌+◌, ◌≤◌, ◌<◌}
use native.Mathlib.Omega.{arith}
use lib.Dec.{ltb, leb}
use lib.ListN.{length}
use borrow.Author.Tests.{leb-true, ltb-true, ltb-false, eqb-false, not-true}
use Rattle.lists.specs.Lists.{filter, up_from, Each}
use Rattle.lists.proofs.Tests.{tested, both}
use Rattle.lists.proofs.Each.{each_append, each-flat, each_map, each-imp, each_both}
use Rattle.lists.proofs.Pairs.{each-up_from}
use Rattle.columns.specs.Limits.{Served}
use Rattle.columns.specs.Building.{in_file}
use Rattle.cleaning.specs.Summary.{Summary}
use Rattle.cleaning.specs.Writing.{Numbered, numbered, group_is, rows_in, Edge, edges_into, edges_of}
use Rattle.cleaning.proofs.Good.{GoodLists, Good}
use Rattle.lists.proofs.Filters.{each-filter, filter_passes}
use Rattle.cleaning.proofs.Numbers.{lists-numbered}
use Rattle.cleaning.proofs.Blocks.{GoodRow, rows_before, all-rows, before-rises, rows_within}

-- ── the edges of one row ─────────────────────────────────────────────────────────────────────

abbrev pub edge : ℕ → ℕ → ℕ → Edge
edge child k p = record { child = child; parent = p; kind = k }

-- an edge of a child to a number of a file, of a kind from k on and below m
pub record EdgeInto (first end c k m : ℕ) (e : Edge) : Type 0 where
  pub child : e.child ≡ c
  pub low : first ≤ e.parent
  pub high : e.parent < end
  pub below : e.parent < c
  pub from : k ≤ e.kind
  pub kind : e.kind < m

module _ (first end child m : ℕ) where
  list-into : (k : ℕ) (ps : List ℕ) → k < m → Each (λ p. p < child) ps → Each (EdgeInto first end child k m) (map (edge child k) (filter (in_file first end) ps))
  unfolding in_file
  list-into k ps l h =
      each_map (EdgeInto first end child k m) (edge child k) (filter (in_file first end) ps)
      (each-imp (λ p. (in_file first end p ≡ true) × (p < child)) (λ p. EdgeInto first end child k m (edge child k p)) (filter (in_file first end) ps)
      (λ p b. let q = both (leb first p) (ltb p end) b.0 in record {
        child = refl;
        low = leb-true first p q.0;
        high = ltb-true p end q.1;
        below = b.1;
        from = omega arith;
        kind = l;
      })
      (each_both (λ p. in_file first end p ≡ true) (λ p. p < child) (filter (in_file first end) ps)
      (filter_passes (in_file first end) ps) (each-filter (in_file first end) (λ p. p < child) ps h)))

  pub edges-into : (k : ℕ) (lists : List (List ℕ)) → k + length lists ≤ m → Each (λ ps. Each (λ p. p < child) ps) lists
      → Each (EdgeInto first end child k m) (edges_into first end child k lists)
  unfolding edges_into
  edges-into k [] l h = tt
  edges-into k (ps ∷ lists) l h =
      each_append (EdgeInto first end child k m) (map (edge child k) (filter (in_file first end) ps)) (edges_into first end child (suc k) lists)
      (list-into k ps (omega arith) h.0)
      (each-imp (EdgeInto first end child (suc k) m) (EdgeInto first end child k m) (edges_into first end child (suc k) lists)
      (λ e i. record { child = i.child; low = i.low; high = i.high; below = i.below; from = omega (arith, i.from); kind = i.kind })
      (edges-into (suc k) lists (omega arith) h.1))

-- ── from past the end ────────────────────────────────────────────────────────────────────────

-- a row's number lies where its group's rows do
abbrev InBlock : Summary → Numbered → Type 0
InBlock S r = let g = r.row.body.group in (S.start + rows_before S g ≤ r.number) × (r.number < S.start + rows_before S (suc g))

-- an inbound edge of a file
abbrev pub Inbound : (K : ℕ) → ℕ → ℕ → Edge → Type 0
Inbound K first end e = (end ≤ e.child) × (first ≤ e.parent) × (e.parent < end) × (e.kind < K)

module _ (K : ℕ) (served : Served K) (S : Summary) (good : Good K S) where
  block : (j : ℕ) → j < length S.groups → Each (InBlock S) (rows_in S j)
  block j l =
      each-imp (λ r. GoodRow K S j r × ((S.start + rows_before S j ≤ r.number) × (r.number < S.start + rows_before S (suc j)))) (InBlock S) (rows_in S j)
      (λ r b. subst (λ g. (S.start + rows_before S g ≤ r.number) × (r.number < S.start + rows_before S (suc g))) (sym b.0.group) b.1)
      (rows_within K served S good j l)

  blocks : Each (InBlock S) (numbered S)
  blocks = subst (Each (InBlock S)) (all-rows K served S good)
      (each-flat (InBlock S) (rows_in S) (up_from 0 (length S.groups))
      (each-imp (λ j. (0 ≤ j) × (j < 0 + length S.groups)) (λ j. Each (InBlock S) (rows_in S j)) (up_from 0 (length S.groups))
      (λ j b. block j (omega arith)) (each-up_from 0 (length S.groups))))

  -- a row of another group that is past one of a group's numbers is past all of them
  past_end : (g : ℕ) (r : Numbered) (p : ℕ) → group_is g r ≡ false → InBlock S r → S.start + rows_before S g ≤ p → p < r.number
      → S.start + rows_before S (suc g) ≤ r.number
  past_end g r p d b l h = elim (tested (ltb r.row.body.group g)) [
    | inl e ↦ absurd (omega (arith, before-rises K served S good (suc r.row.body.group) g (ltb-true r.row.body.group g e)))
    | inr e ↦ omega (arith, before-rises K served S good (suc g) r.row.body.group (omega (arith, ltb-false r.row.body.group g e, eqb-false r.row.body.group g d)))
  ]

  pub edges-inbound : (g : ℕ) → Each (Inbound K (S.start + rows_before S g) (S.start + rows_before S (suc g)))
      (edges_of S g (S.start + rows_before S g) (S.start + rows_before S (suc g)))
  unfolding edges_of numbered
  edges-inbound g =
      let first = S.start + rows_before S g in
      let end = S.start + rows_before S (suc g) in
      let other : Numbered → Bool = λ r. not (group_is g r) in
      each-flat (Inbound K first end) (λ r. edges_into first end r.number 0 r.row.parents) (filter other (numbered S))
      (each-imp (λ r. (other r ≡ true) × (InBlock S r × GoodLists K r.number r.row.parents))
      (λ r. Each (Inbound K first end) (edges_into first end r.number 0 r.row.parents)) (filter other (numbered S))
      (λ r b. each-imp (EdgeInto first end r.number 0 K) (Inbound K first end) (edges_into first end r.number 0 r.row.parents)
      (λ e i. (omega (arith, i.child, past_end g r e.parent (not-true (group_is g r) b.0) b.1.0 i.low i.below), i.low, i.high, i.kind))
      (edges-into first end r.number K 0 r.row.parents (omega (arith, b.1.1.each_kind)) b.1.1.below))
      (each_both (λ r. other r ≡ true) (λ r. InBlock S r × GoodLists K r.number r.row.parents) (filter other (numbered S))
      (filter_passes other (numbered S))
      (each-filter other (λ r. InBlock S r × GoodLists K r.number r.row.parents) (numbered S)
      (each_both (InBlock S) (λ r. GoodLists K r.number r.row.parents) (numbered S) blocks (lists-numbered K served S.start S.rows good.lists)))))
