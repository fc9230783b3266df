-- Of each list the numbers of a range: how many they are, and the numbers below a bound and those from it on, which together are all.
use mathlib.Core.Path.{◌≡◌, refl, ap, ap₂, ◌∙◌}
use mathlib.Core.Bool.{Bool, true, false, ◌&&◌, not}
use mathlib.Core.Logic.{inl, inr}
use mathlib.Core.List.{List, [], ◌∷◌, map}
use Prim.Native.Nat.{ℕ, suc, ◌+◌, ◌≤◌, ◌<◌}
use native.Mathlib.Omega.{arith}
use lib.Dec.{ltb}
use lib.ListN.{length, length-append, length-map}
use borrow.Author.Tests.{ltb-true, ltb-false}
use Rattle.columns.specs.Limits.{Served}
use Rattle.lists.specs.Lists.{all, filter, joined, Each}
use Rattle.lists.proofs.Tests.{tested, all_append}
use Rattle.lists.proofs.Each.{each-imp}
use Rattle.lists.proofs.Filters.{filter-all, filter-append}
use Rattle.columns.specs.EdgeSet.{event_of, delta_of, deltas_from, set_of}
use Rattle.columns.specs.Building.{in_file, fits63, deltas_fit, within}
use Rattle.cleaning.proofs.RowRules.{in-file, before-file, past-file}

-- ── one range ────────────────────────────────────────────────────────────────────────────────

module _ (K : ℕ) (served : Served K) (low high : ℕ) where
  pub length-within : (lists : List (List ℕ)) → length (within low high lists) ≡ length lists
  unfolding within
  length-within lists = length-map lists (filter (in_file low high))

  -- joined, they are those of the joined lists
  joined-within : (lists : List (List ℕ)) → joined (within low high lists) ≡ filter (in_file low high) (joined lists)
  unfolding within joined filter
  joined-within [] = refl
  joined-within (l ∷ lists) = rw (joined-within lists, filter-append (in_file low high) l (joined lists))

  pub count-within : (first : ℕ) (lists : List (List ℕ)) → (set_of K first (within low high lists)).count ≡ length (filter (in_file low high) (joined lists))
  unfolding set_of
  count-within first lists = ap length (joined-within lists)

  -- where every number is in the range, all stay
  pub within_all : (lists : List (List ℕ)) → Each (λ l. Each (λ n. (low ≤ n) × (n < high)) l) lists → within low high lists ≡ lists
  unfolding within
  within_all [] h = refl
  within_all (l ∷ lists) h =
      ap₂ (λ m ms. m ∷ ms)
      (filter-all (in_file low high) l
      (each-imp (λ n. (low ≤ n) × (n < high)) (λ n. in_file low high n ≡ true) l (λ n b. in-file low high n b.0 b.1) h.0))
      (within_all lists h.1)

-- ── two tests of which one passes ────────────────────────────────────────────────────────────

module _ {A : Type 0} (p q : A → Bool) where
  length-halves : (xs : List A) → Each (λ x. q x ≡ not (p x)) xs → length (filter p xs) + length (filter q xs) ≡ length xs
  unfolding filter
  length-halves [] h = refl
  length-halves (x ∷ xs) h = elim (tested (p x)) [
    | inl e ↦ rw (h.0, e) (omega (arith, length-halves xs h.1))
    | inr e ↦ rw (h.0, e) (omega (arith, length-halves xs h.1))
  ]

  all-halves : (t : A → Bool) (xs : List A) → Each (λ x. q x ≡ not (p x)) xs → (all t (filter p xs) && all t (filter q xs)) ≡ all t xs
  unfolding filter all
  all-halves t [] h = refl
  all-halves t (x ∷ xs) h = elim (tested (p x)) [
    | inl e ↦ rw (h.0, e) (left (t x) (all t (filter p xs)) (all t (filter q xs)) ∙ ap (λ b. t x && b) (all-halves t xs h.1))
    | inr e ↦ rw (h.0, e) (right (t x) (all t (filter p xs)) (all t (filter q xs)) ∙ ap (λ b. t x && b) (all-halves t xs h.1))
  ]
    where
      left : (a b c : Bool) → ((a && b) && c) ≡ (a && (b && c))
      left true b c = refl
      left false b c = refl

      right : (a b c : Bool) → (b && (a && c)) ≡ (a && (b && c))
      right true b c = refl
      right false true c = refl
      right false false c = refl

-- ── deltas ───────────────────────────────────────────────────────────────────────────────────

module _ (K : ℕ) (served : Served K) (first : ℕ) where
  -- the deltas of the slots from one on
  fit_from : ℕ → List (List ℕ) → Bool
  fit_from slot lists = all fits63 (joined (deltas_from K first slot lists))

  fit_none : (slot : ℕ) → fit_from slot [] ≡ true
  unfolding deltas_from joined all fit_from
  fit_none slot = refl

  all-deltas : (event : ℕ) (l : List ℕ) → all fits63 (map (delta_of event) l) ≡ all (λ n. fits63 (delta_of event n)) l
  unfolding all
  all-deltas event [] = refl
  all-deltas event (n ∷ l) = rw (all-deltas event l)

  fit-cons : (slot : ℕ) (l : List ℕ) (lists : List (List ℕ))
      → fit_from slot (l ∷ lists) ≡ (all (λ n. fits63 (delta_of (event_of K first slot) n)) l && fit_from (suc slot) lists)
  unfolding deltas_from joined fit_from
  fit-cons slot l lists = rw (all_append fits63 (map (delta_of (event_of K first slot)) l) (joined (deltas_from K first (suc slot) lists)), all-deltas (event_of K first slot) l)

-- ── two ranges that follow one another ───────────────────────────────────────────────────────

module _ (K : ℕ) (served : Served K) (mid high : ℕ) where
  -- a number is below the bound or not
  halves : (l : List ℕ) → Each (λ n. n < high) l → Each (λ n. in_file mid high n ≡ not (in_file 0 mid n)) l
  halves l h = each-imp (λ n. n < high) (λ n. in_file mid high n ≡ not (in_file 0 mid n)) l half h
    where
      half : (n : ℕ) → n < high → in_file mid high n ≡ not (in_file 0 mid n)
      half n b = elim (tested (ltb n mid)) [
        | inl e ↦ let m = ltb-true n mid e in rw (before-file mid high n m, in-file 0 mid n (omega arith) m)
        | inr e ↦ let m = ltb-false n mid e in rw (in-file mid high n m b, past-file 0 mid n m)
      ]

  pub counts-add : (lists : List (List ℕ)) → Each (λ l. Each (λ n. n < high) l) lists
      → length (joined (within 0 mid lists)) + length (joined (within mid high lists)) ≡ length (joined lists)
  unfolding within joined
  counts-add [] h = refl
  counts-add (l ∷ lists) h =
      omega (
        arith,
        length-append (filter (in_file 0 mid) l) (joined (within 0 mid lists)),
        length-append (filter (in_file mid high) l) (joined (within mid high lists)),
        length-append l (joined lists),
        length-halves (in_file 0 mid) (in_file mid high) l (halves l h.0),
        counts-add lists h.1,
      )

  module _ (first : ℕ) where
    fit-halves : (slot : ℕ) (lists : List (List ℕ)) → Each (λ l. Each (λ n. n < high) l) lists
        → (fit_from K served first slot (within 0 mid lists) && fit_from K served first slot (within mid high lists)) ≡ fit_from K served first slot lists
    unfolding within
    fit-halves slot [] h = rw (fit_none K served first slot)
    fit-halves slot (l ∷ lists) h =
        let t : ℕ → Bool = λ n. fits63 (delta_of (event_of K first slot) n) in
        rw (
          fit-cons K served first slot (filter (in_file 0 mid) l) (within 0 mid lists),
          fit-cons K served first slot (filter (in_file mid high) l) (within mid high lists),
          fit-cons K served first slot l lists,
          ← all-halves (in_file 0 mid) (in_file mid high) t l (halves l h.0),
          ← fit-halves (suc slot) lists h.1,
        )
        (four (all t (filter (in_file 0 mid) l)) (fit_from K served first (suc slot) (within 0 mid lists)) (all t (filter (in_file mid high) l))
        (fit_from K served first (suc slot) (within mid high lists)))
      where
        four : (a b c d : Bool) → ((a && b) && (c && d)) ≡ ((a && c) && (b && d))
        four true true c d = refl
        four true false true d = refl
        four true false false d = refl
        four false b c d = refl

    -- the deltas of both ranges fit where all fit
    pub deltas-halves : (lists : List (List ℕ)) → Each (λ l. Each (λ n. n < high) l) lists
        → (deltas_fit K first (within 0 mid lists) && deltas_fit K first (within mid high lists)) ≡ deltas_fit K first lists
    unfolding deltas_fit fit_from
    deltas-halves lists h = fit-halves 0 lists h
