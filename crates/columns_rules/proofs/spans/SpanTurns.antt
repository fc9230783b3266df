-- Edges of a granule: event minus target as a number of signed 64 bits, and one turn over targets, slots and edges.
use mathlib.Core.Path.{◌≡◌, refl}
use mathlib.Core.Bool.{Bool, true, false, not, ◌&&◌}
use mathlib.Core.Logic.{inl, inr}
use mathlib.Core.List.{List, [], ◌∷◌, map}
use Prim.Native.Nat.{ℕ, suc, ◌+◌, ◌-◌, ◌*◌, ◌/◌, ◌≤◌, ◌<◌}
use native.Mathlib.Numerals.{add-one}
use native.Mathlib.Omega.{arith}
use lib.Dec.{ltb, leb}
use lib.ListN.{length, get_or, drop, drop_of_length-le, length-take, length-drop}
use lib.Seq.{slice, slice-cons, drop-cons, get_or-take, get_or-drop}
use borrow.Author.Tests.{lt-ltb, le-ltb, leb-true, leb-false, not-true, not-false}
use Rattle.columns.specs.Limits.{kinds}
use Rattle.lists.specs.Lists.{all, part, joined}
use Rattle.lists.proofs.Tests.{tested, all_append}
use Rattle.lists.proofs.Slices.{slice-none}
use Rattle.columns.specs.EdgeSet.{offsets_form, cut, event_of, delta_of, deltas_from}
use Rattle.columns.specs.Building.{fits63, deltas_fit}
use Rattle.columns.proofs.Deltas.{delta-down, delta-up}
use Rattle.columns_rules.specs.spans.Spanned.{spans_fit, slots_fit}
use Rattle.columns_rules.proofs.SlotTables.{table_of, length_cut, get_or-cut}

-- ── event minus target ───────────────────────────────────────────────────────────────────────

module _ (event target : ℕ) where
  pub span-down : target ≤ event → ltb (event - target) 9223372036854775808 ≡ fits63 (delta_of event target)
  unfolding fits63
  span-down h = rw (delta-down event target h)

  pub span-up : event < target → leb (target - event) 9223372036854775808 ≡ fits63 (delta_of event target)
  unfolding fits63
  span-up h =
      rw (delta-up event target h) (elim (tested (leb (target - event) 9223372036854775808)) [
        | inl e ↦ rw (e, lt-ltb (target - event - 1) 9223372036854775808 (omega (arith, leb-true (target - event) 9223372036854775808 e)))
        | inr e ↦ rw (e, le-ltb (target - event - 1) 9223372036854775808 (omega (arith, leb-false (target - event) 9223372036854775808 e)))
      ])

-- ── targets and slots ────────────────────────────────────────────────────────────────────────

module _ {t : Bool} (event j to : ℕ) (l : List ℕ) (e : t ≡ spans_fit event (slice j to l)) where
  pub spans-done : to ≤ j → true ≡ t
  unfolding spans_fit all
  spans-done h = rw (e, slice-none j to l h)

  module _ (h : j < to) (k : to ≤ length l) {r : Bool} (f : r ≡ fits63 (delta_of event (get_or l j 0))) where
    pub span-far : not r ≡ true → false ≡ t
    unfolding spans_fit all
    span-far q = rw (e, slice-cons j to l 0, ← f, not-true r q)

    pub spans_on : not r ≡ false → t ≡ spans_fit event (slice (j + 1) to l)
    unfolding spans_fit all
    spans_on q = rw (e, slice-cons j to l 0, ← f, not-false r q, add-one)

module _ (rows from q : ℕ) (offsets targets : List ℕ) (ok : offsets_form kinds rows (length targets) offsets ≡ true) (h : 2 * from + q < 2 * rows) where
  pub gran-in : 2 * from + q < length offsets
  gran-in = omega (arith, (table_of rows (length targets) offsets ok).long)

  pub gran-next-in : 2 * from + q + 1 < length offsets
  gran-next-in = omega (arith, (table_of rows (length targets) offsets ok).long)

  pub gran-inside : (b : ℕ) → b ≡ get_or offsets (2 * from + q + 1) 0 → b ≤ length targets
  gran-inside b f = omega (arith, (table_of rows (length targets) offsets ok).bound (2 * from + q + 1) (omega arith))

  pub gran-says : (first a b : ℕ) → a ≡ get_or offsets (2 * from + q) 0 → b ≡ get_or offsets (2 * from + q + 1) 0
      → {r : Bool} → r ≡ spans_fit (first + (from + q / 2)) (slice a b targets) → r ≡ spans_fit (first + from + q / 2) (get_or (cut offsets targets) (2 * from + q) [])
  gran-says first a b x y e =
      let d : first + from + q / 2 ≡ first + (from + q / 2) = omega arith in
      rw (get_or-cut (2 * rows) offsets targets (table_of rows (length targets) offsets ok).long (2 * from + q) h, d, ← x, ← y) e

pub fit-slots : (first slot : ℕ) (lists : List (List ℕ)) → all fits63 (joined (deltas_from kinds first slot lists)) ≡ slots_fit first slot lists
unfolding joined deltas_from slots_fit spans_fit all
fit-slots first slot [] = refl
fit-slots first slot (l ∷ ls) = rw (all_append fits63 (map (delta_of (event_of kinds first slot)) l) (joined (deltas_from kinds first (suc slot) ls)), fit-slots first (suc slot) ls)

pub deltas-slots : (first : ℕ) (lists : List (List ℕ)) → deltas_fit kinds first lists ≡ slots_fit first 0 lists
unfolding deltas_fit
deltas-slots first lists = fit-slots first 0 lists

module _ {t : Bool} (first rows from n q : ℕ) (offsets targets : List ℕ) (ok : offsets_form kinds rows (length targets) offsets ≡ true)
    (e : t ≡ slots_fit (first + from) q (drop q (part (2 * from) (2 * n) (cut offsets targets)))) (m : from + n ≤ rows) where
  whole : length (cut offsets targets) ≡ 2 * rows
  whole = length_cut (2 * rows) 0 offsets targets (table_of rows (length targets) offsets ok).long

  long : length (part (2 * from) (2 * n) (cut offsets targets)) ≡ 2 * n
  unfolding part
  long = simp (length-take, length-drop) (omega (arith, whole))

  pub gran-done : 2 * n ≤ q → true ≡ t
  unfolding slots_fit
  gran-done h = rw (e, drop_of_length-le (part (2 * from) (2 * n) (cut offsets targets)) {i = q} (omega (arith, long)))

  module _ (h : q < 2 * n) {r : Bool} (f : r ≡ spans_fit (first + from + q / 2) (get_or (cut offsets targets) (2 * from + q) [])) where
    at : get_or (part (2 * from) (2 * n) (cut offsets targets)) q [] ≡ get_or (cut offsets targets) (2 * from + q) []
    unfolding part
    at = rw (get_or-take (2 * n) (drop (2 * from) (cut offsets targets)) q [] h, get_or-drop (2 * from) (cut offsets targets) q [])

    gran-step : t ≡ (r && slots_fit (first + from) (suc q) (drop (suc q) (part (2 * from) (2 * n) (cut offsets targets))))
    unfolding slots_fit
    gran-step = rw (e, drop-cons (part (2 * from) (2 * n) (cut offsets targets)) q [] (omega (arith, long)), at, ← f)

    pub gran-far : not r ≡ true → false ≡ t
    gran-far k = rw (gran-step, not-true r k)

    pub gran-on : not r ≡ false → t ≡ slots_fit (first + from) (q + 1) (drop (q + 1) (part (2 * from) (2 * n) (cut offsets targets)))
    gran-on k = rw (gran-step, not-false r k, add-one)
