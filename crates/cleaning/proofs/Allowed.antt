-- Lists of a set, number by number: where each number's targets are on the set's side, 19 refuses none of them.
use mathlib.Core.Path.{◌≡◌, sym, subst}
use mathlib.Core.Bool.{true}
use mathlib.Core.List.{List, [], ◌∷◌, ◌++◌, map}
use Prim.Native.Nat.{ℕ, zero, suc, ◌+◌, ◌*◌, ◌≤◌, ◌<◌}
use native.Mathlib.Omega.{arith}
use native.Mathlib.Nat.{add-zero, mul-zero}
use lib.ListN.{length, get_or}
use Rattle.lists.specs.Lists.{flat, up_from, Each}
use Rattle.lists.proofs.Slots.{slot_row}
use Rattle.lists.proofs.Each.{each_map}
use Rattle.lists.proofs.Flat.{length-map-up_from}
use Rattle.columns.specs.Limits.{Served, end64}
use Rattle.columns.specs.EdgeSet.{event_of, allowed}
use Rattle.columns.specs.Building.{slot_table}
use Rattle.columns.proofs.ReadBack.{AllowedFrom}
use Rattle.lists.proofs.Filters.{each_below}
use Rattle.lists.proofs.From.{EachFrom, from-eq}

-- the targets of a number are on the set's side
abbrev pub OnSide : ℕ → ℕ → ℕ → List ℕ → Type 0
OnSide set end n ts = Each (λ t. (allowed set end n t ≡ true) × (t < end64)) ts

-- a number's lists, one for each kind, are on the set's side
abbrev pub SideRow : (K : ℕ) → ℕ → ℕ → ℕ → List (List ℕ) → Type 0
SideRow K set end n lists = (n < end64) × (length lists ≡ K) × Each (OnSide set end n) lists

module _ (K : ℕ) (served : Served K) (set first end : ℕ) where
  -- the lists of the kinds from j on of one number
  allowed-kinds : (i j : ℕ) (lists rest : List (List ℕ)) → first + i < end64 → length lists + j ≡ K → Each (OnSide set end (first + i)) lists
      → AllowedFrom K set first end (K * suc i) rest → AllowedFrom K set first end (K * i + j) (lists ++ rest)
  allowed-kinds i j [] rest n l s h = let e : K * i + j ≡ K * suc i = omega arith in rw e h
  allowed-kinds i j (a ∷ lists) rest n l s h =
      let e : event_of K first (K * i + j) ≡ first + i = rw (slot_row K i j (omega arith)) in
      let on : suc (K * i + j) ≡ K * i + suc j = omega arith in
      (rw e n, rw e s.0, rw on (allowed-kinds i (suc j) lists rest n (omega arith) s.1 h))

  allowed-row : (i : ℕ) (lists rest : List (List ℕ)) → SideRow K set end (first + i) lists
      → AllowedFrom K set first end (K * suc i) rest → AllowedFrom K set first end (K * i) (lists ++ rest)
  allowed-row i lists rest s h = rw (add-zero (K * i)) at (allowed-kinds i 0 lists rest s.0 (omega (arith, s.1)) s.2 h)

  pub allowed-rows : {A : Type 0} (f : A → List (List ℕ)) (i : ℕ) (xs : List A) → EachFrom (λ n x. SideRow K set end n (f x)) (first + i) xs
      → AllowedFrom K set first end (K * i) (flat f xs)
  allowed-rows f i [] h = tt
  allowed-rows f i (x ∷ xs) h =
      allowed-row i (f x) (flat f xs) h.0
      (allowed-rows f (suc i) xs (from-eq (λ n x. SideRow K set end n (f x)) (suc (first + i)) (first + suc i) xs (omega arith) h.1))

  -- lists made for each number and kind
  pub allowed-table : (f : ℕ → ℕ → List ℕ) (rows : ℕ) → first + rows ≤ end64
      → ((n k : ℕ) → first ≤ n → n < first + rows → k < K → OnSide set end n (f n k)) → AllowedFrom K set first end 0 (slot_table K f first rows)
  unfolding slot_table up_from
  allowed-table f rows b h =
      rw (mul-zero K) at (allowed-rows (λ n. map (f n) (up_from 0 K)) 0 (up_from first rows)
      (from-eq _ first (first + 0) (up_from first rows) (sym (add-zero first)) (go first rows (omega arith) (omega arith))))
    where
      go : (n m : ℕ) → first ≤ n → n + m ≤ first + rows → EachFrom (λ n x. SideRow K set end n (map (f x) (up_from 0 K))) n (up_from n m)
      go n zero l u = tt
      go n (suc m) l u = (
        (
          omega arith,
          length-map-up_from (f n) 0 K,
          each_map (OnSide set end n) (f n) (up_from 0 K)
              (each_below (λ k. OnSide set end n (f n k)) K (λ k b. h n k l (omega arith) b)),
        ),
        go (suc n) m (omega arith) (omega arith),
      )

-- the targets of a slot of such lists
pub allowed_at : (K : ℕ) (served : Served K) (set first end slot : ℕ) (lists : List (List ℕ)) (j : ℕ)
    → AllowedFrom K set first end slot lists → OnSide set end (event_of K first (slot + j)) (get_or lists j [])
allowed_at K served set first end slot [] j h = tt
allowed_at K served set first end slot (ts ∷ lists) zero h = subst (λ m. OnSide set end (event_of K first m) ts) {x = slot} {y = slot + 0} (omega arith) h.1
allowed_at K served set first end slot (ts ∷ lists) (suc j) h =
    subst (λ m. OnSide set end (event_of K first m) (get_or lists j [])) {x = suc slot + j} {y = slot + suc j} (omega arith)
    (allowed_at K served set first end (suc slot) lists j h.2)
