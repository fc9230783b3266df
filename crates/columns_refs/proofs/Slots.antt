-- Parent lists written: one reference, one slot, all slots.
use mathlib.Core.Path.{◌≡◌, refl, ◌∙◌, ap}
use mathlib.Core.List.{List, [], ◌∷◌, ◌++◌, map}
use Prim.Native.Nat.{ℕ, suc, ◌+◌, ◌*◌, ◌/◌, ◌%◌, ◌≤◌, ◌<◌}
use native.Mathlib.Numerals.{add-one}
use native.Mathlib.Omega.{arith}
use lib.Dec.{eqb}
use lib.ListN.{length, get_or, set, drop, drop_of_length-le}
use lib.Seq.{slice, sets, drop-cons, slice-cons}
use borrow.Author.Tests.{eq-eqb, ne_eqb}
use Rattle.lists.specs.Lists.{filter, joined, starts, up_from}
use Rattle.lists.proofs.Filters.{filter-append}
use Rattle.lists.proofs.Flat.{flat_append, length-map-up_from, get_or-map-up_from}
use Rattle.lists.proofs.Cut.{length-blocks, get_or-blocks}
use Rattle.lists.proofs.Slices.{slice-none}
use Rattle.lists.proofs.Storing.{Storing, stored-all, stored_next, storing-room, storing-on}
use Rattle.columns.specs.Limits.{kinds}
use Rattle.columns.specs.EdgeSet.{cut}
use Rattle.columns.proofs.Offsets.{cut-length, slot-cut, inside}
use Rattle.columns_refs.specs.References.{names, parents_of, parent_lists}
use Rattle.columns_refs.specs.Resolved.{absent, RowsForm}
use Rattle.columns_refs.specs.declared.refs.Reference.{Reference}

-- ── one reference ────────────────────────────────────────────────────────────────────────────

module _ (x : Reference) (kind : ℕ) where
  pub other-kind : (x.kind ≡ kind → ⊥) → parents_of kind (x ∷ []) ≡ []
  unfolding parents_of filter
  other-kind h = rw (ne_eqb x.kind kind h)

  module _ (h : x.kind ≡ kind) where
    pub named-target : x.space ≡ 3 → parents_of kind (x ∷ []) ≡ x.target ∷ []
    unfolding parents_of filter names
    named-target s = rw (eq-eqb x.kind kind h, eq-eqb x.space 3 s)

    module _ (s : x.space ≡ 3 → ⊥) where
      pub named_none : x.known ≡ 0 → parents_of kind (x ∷ []) ≡ []
      unfolding parents_of filter names
      named_none k = rw (eq-eqb x.kind kind h, ne_eqb x.space 3 s, eq-eqb x.known 0 k)

      pub named-number : (x.known ≡ 0 → ⊥) → parents_of kind (x ∷ []) ≡ x.number ∷ []
      unfolding parents_of filter names
      named-number k = rw (eq-eqb x.kind kind h, ne_eqb x.space 3 s, ne_eqb x.known 0 k)

-- nothing is written, or one number
module _ (vs : List ℕ) (at : ℕ) where
  pub none_written : vs ≡ [] → (out : List ℕ) → out ≡ sets out at vs
  none_written e out = rw e

  pub none-next : vs ≡ [] → at ≡ at + length vs
  none-next e = rw e (omega arith)

  module _ {v : ℕ} (e : vs ≡ v ∷ []) where
    pub one_written : (out : List ℕ) → set out at v ≡ sets out at vs
    one_written out = rw e

    pub one-next : at + 1 ≡ at + length vs
    one-next = rw e

    one-room : (out : List ℕ) → at + length vs ≤ length out → at < length out
    one-room out h = omega (arith, ap length e)

module _ (x : Reference) (kind at : ℕ) (out : List ℕ) (h : x.kind ≡ kind) (r : at + length (parents_of kind (x ∷ [])) ≤ length out) where
  pub target_room : x.space ≡ 3 → at < length out
  target_room s = one-room (parents_of kind (x ∷ [])) at (named-target x kind h s) out r

  pub number-room : (x.space ≡ 3 → ⊥) → (x.known ≡ 0 → ⊥) → at < length out
  number-room s k = one-room (parents_of kind (x ∷ [])) at (named-number x kind h s k) out r

-- ── one slot ─────────────────────────────────────────────────────────────────────────────────

pub parents-append : (kind : ℕ) (xs ys : List Reference) → parents_of kind (xs ++ ys) ≡ parents_of kind xs ++ parents_of kind ys
unfolding parents_of
parents-append kind xs ys = rw (filter-append (λ x. eqb x.kind kind) xs ys) (flat_append names (filter (λ x. eqb x.kind kind) xs) (filter (λ x. eqb x.kind kind) ys))

module _ (kind i to : ℕ) (xs : List Reference) {was : List ℕ} {at : ℕ} {whole out : List ℕ} {p : ℕ} (s : Storing was at whole out p (parents_of kind (slice i to xs))) where
  module _ (h : to ≤ i) where
    over : parents_of kind (slice i to xs) ≡ []
    unfolding parents_of filter
    over = rw (slice-none i to xs h)

    pub slot-done : out ≡ sets was at whole
    slot-done = stored-all s over

    pub slot_next : p ≡ at + length whole
    slot_next = stored_next s over

  module _ (h : i < to) (k : to ≤ length xs) (x : Reference) (f : x ≡ get_or xs i absent) where
    left : parents_of kind (slice i to xs) ≡ parents_of kind (x ∷ []) ++ parents_of kind (slice (i + 1) to xs)
    left = rw (slice-cons i to xs absent h k, ← f, add-one) (parents-append kind (x ∷ []) (slice (suc i) to xs))

    pub slot-room : at + length whole ≤ length was → p + length (parents_of kind (x ∷ [])) ≤ length out
    slot-room g = storing-room s (parents_of kind (x ∷ [])) (parents_of kind (slice (i + 1) to xs)) left g

    pub slot-on : (now : List ℕ) (q : ℕ) → now ≡ sets out p (parents_of kind (x ∷ [])) → q ≡ p + length (parents_of kind (x ∷ []))
        → Storing was at whole now q (parents_of kind (slice (i + 1) to xs))
    slot-on now q a b = storing-on s (parents_of kind (x ∷ [])) (parents_of kind (slice (i + 1) to xs)) left now q a b

-- ── all slots ────────────────────────────────────────────────────────────────────────────────

-- the lists of one row, a list for each kind
abbrev row_lists : List Reference → List (List ℕ)
row_lists row = map (λ kind. parents_of kind row) (up_from 0 kinds)

row-wide : (row : List Reference) → length (row_lists row) ≡ kinds
row-wide row = length-map-up_from (λ kind. parents_of kind row) 0 kinds

module _ (rows : ℕ) (offsets : List ℕ) (xs : List Reference) (f : RowsForm rows offsets xs) where
  pub length-rows : length (cut offsets xs) ≡ rows
  length-rows = cut-length offsets xs ∙ omega (arith, f.many)

  pub length-lists : length (parent_lists (cut offsets xs)) ≡ 2 * rows
  unfolding parent_lists
  length-lists = length-blocks row_lists kinds row-wide (cut offsets xs) ∙ ap (λ n. 2 * n) length-rows

  pub lists-over : (q : ℕ) → 2 * rows ≤ q → drop q (parent_lists (cut offsets xs)) ≡ []
  lists-over q h = drop_of_length-le (parent_lists (cut offsets xs)) {i = q} (omega (arith, length-lists))

  module _ (q from to : ℕ) (h : q < 2 * rows) (a : from ≡ get_or offsets (q / 2) 0) (b : to ≡ get_or offsets (q / 2 + 1) 0) where
    pub slot-end : to ≤ length xs
    slot-end = inside (length xs) offsets f.climbs (q / 2) (omega (arith, f.many)) from to a b

    slot-list : get_or (parent_lists (cut offsets xs)) q [] ≡ parents_of (q % 2) (slice from to xs)
    unfolding parent_lists
    slot-list =
        let k : q % 2 < 2 = omega arith in
        let e : q ≡ 2 * (q / 2) + q % 2 = omega arith in
        ap (λ j. get_or (parent_lists (cut offsets xs)) j []) e
        ∙ get_or-blocks row_lists kinds row-wide (cut offsets xs) (q / 2) (q % 2) [] [] (omega (arith, length-rows)) k
        ∙ get_or-map-up_from (λ kind. parents_of kind (get_or (cut offsets xs) (q / 2) [])) 0 kinds (q % 2) [] k
        ∙ rw (slot-cut offsets xs (q / 2) from to (omega (arith, f.many)) a b) (ap (λ j. parents_of j (slice from to xs)) (omega arith))

    lists-left : drop q (parent_lists (cut offsets xs)) ≡ parents_of (q % 2) (slice from to xs) ∷ drop (q + 1) (parent_lists (cut offsets xs))
    lists-left = rw (drop-cons (parent_lists (cut offsets xs)) q [] (omega (arith, length-lists)), slot-list, add-one)

    joined-left : joined (drop q (parent_lists (cut offsets xs))) ≡ parents_of (q % 2) (slice from to xs) ++ joined (drop (q + 1) (parent_lists (cut offsets xs)))
    unfolding joined
    joined-left = rw lists-left

    starts-left : (p r : ℕ) → r ≡ p + length (parents_of (q % 2) (slice from to xs))
        → starts p (drop q (parent_lists (cut offsets xs))) ≡ p ∷ starts r (drop (q + 1) (parent_lists (cut offsets xs)))
    unfolding starts
    starts-left p r e = rw (lists-left, e)

    module _ (kind : ℕ) (c : kind ≡ q % 2) where
      -- where the next list starts
      pub start-on : {was : List ℕ} (out : List ℕ) (p : ℕ) → Storing was 0 (starts 0 (parent_lists (cut offsets xs))) out q (starts p (drop q (parent_lists (cut offsets xs))))
          → (r : ℕ) → r ≡ p + length (parents_of kind (slice from to xs))
          → Storing was 0 (starts 0 (parent_lists (cut offsets xs))) (set out q p) (q + 1) (starts r (drop (q + 1) (parent_lists (cut offsets xs))))
      start-on out p s r e = storing-on s (p ∷ []) (starts r (drop (q + 1) (parent_lists (cut offsets xs)))) (starts-left p r (rw c at e)) (set out q p) (q + 1) refl refl

      module _ {was out : List ℕ} {p : ℕ} (s : Storing was 0 (joined (parent_lists (cut offsets xs))) out p (joined (drop q (parent_lists (cut offsets xs))))) where
        pub list-room : length (joined (parent_lists (cut offsets xs))) ≤ length was → p + length (parents_of kind (slice from to xs)) ≤ length out
        list-room g = rw c (storing-room s (parents_of (q % 2) (slice from to xs)) (joined (drop (q + 1) (parent_lists (cut offsets xs)))) joined-left (omega arith))

        pub list_on : (now : List ℕ) (r : ℕ) → now ≡ sets out p (parents_of kind (slice from to xs)) → r ≡ p + length (parents_of kind (slice from to xs))
            → Storing was 0 (joined (parent_lists (cut offsets xs))) now r (joined (drop (q + 1) (parent_lists (cut offsets xs))))
        list_on now r d e = storing-on s (parents_of (q % 2) (slice from to xs)) (joined (drop (q + 1) (parent_lists (cut offsets xs)))) joined-left now r (rw c at d) (rw c at e)

  module _ (q : ℕ) (h : 2 * rows ≤ q) {was out : List ℕ} (p : ℕ) where
    pub starts-done : Storing was 0 (starts 0 (parent_lists (cut offsets xs))) out q (starts p (drop q (parent_lists (cut offsets xs))))
        → q ≤ 2 * rows → set out (2 * rows) p ≡ sets was 0 (starts 0 (parent_lists (cut offsets xs)))
    unfolding starts
    starts-done s k = let end : 2 * rows ≡ q = omega arith in rw end (stored-all (storing-on s (p ∷ []) [] (rw (lists-over q h)) (set out q p) (q + 1) refl refl) refl)

    module _ (s : Storing was 0 (joined (parent_lists (cut offsets xs))) out p (joined (drop q (parent_lists (cut offsets xs))))) where
      none_left : joined (drop q (parent_lists (cut offsets xs))) ≡ []
      unfolding joined
      none_left = rw (lists-over q h)

      pub lists-done : out ≡ sets was 0 (joined (parent_lists (cut offsets xs)))
      lists-done = stored-all s none_left

      pub lists-count : p ≡ length (joined (parent_lists (cut offsets xs)))
      lists-count = stored_next s none_left ∙ omega arith
