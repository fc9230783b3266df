-- The deltas of a section's lists cut down, written as whatever g makes of them: one turn over a list, one over the slots, and their ends.
use mathlib.Core.Path.{◌≡◌, ◌∙◌, ap}
use mathlib.Core.List.{List, [], ◌∷◌, ◌++◌}
use Prim.Native.Nat.{ℕ, ◌+◌, ◌*◌, ◌/◌, ◌≤◌, ◌<◌}
use lib.IntN.{ℤ}
use lib.ListN.{length, get_or, drop, length-append}
use lib.Seq.{slice, sets}
use Rattle.lists.specs.Lists.{filter, joined, starts}
use Rattle.lists.proofs.Storing.{Storing, storing-begins, stored-all, stored_next, storing-room, storing-on}
use Rattle.columns.specs.EdgeSet.{cut, deltas_from}
use Rattle.columns.specs.Building.{in_file, rows_within, deltas_within}
use Rattle.columns.proofs.Offsets.{slot-cut}
use Rattle.columns.proofs.Within.{slice-left, slice_over, section-left, section-over, deltas-left, deltas-over}

-- ── one list ─────────────────────────────────────────────────────────────────────────────────

module _ {B : Type 0} (g : List ℤ → List B) (none : g [] ≡ []) (append : (xs ys : List ℤ) → g (xs ++ ys) ≡ g xs ++ g ys) {was : List B} {at : ℕ} where
  pub list-begins : (low high event s j b : ℕ) (offsets targets : List ℕ) → s + 1 < length offsets → j ≡ get_or offsets s 0 → b ≡ get_or offsets (s + 1) 0
      → Storing was at (g (deltas_within low high event (get_or (cut offsets targets) s []))) was at (g (deltas_within low high event (slice j b targets)))
  list-begins low high event s j b offsets targets h e f = rw (slot-cut offsets targets s j b h e f) (storing-begins was at (g (deltas_within low high event (slice j b targets))))

  module _ {whole out : List B} {p : ℕ} (low high event j b : ℕ) (l : List ℕ) (s : Storing was at whole out p (g (deltas_within low high event (slice j b l)))) where
    over : b ≤ j → g (deltas_within low high event (slice j b l)) ≡ []
    over h = ap g (slice_over low high event j b l h) ∙ none

    pub list_done : b ≤ j → out ≡ sets was at whole
    list_done h = stored-all s (over h)

    pub list-next : b ≤ j → p ≡ at + length whole
    list-next h = stored_next s (over h)

    module _ (h : j < b) (k : b ≤ length l) where
      left : g (deltas_within low high event (slice j b l)) ≡ g (deltas_within low high event (get_or l j 0 ∷ [])) ++ g (deltas_within low high event (slice (j + 1) b l))
      left = ap g (slice-left low high event j b l h k) ∙ append (deltas_within low high event (get_or l j 0 ∷ [])) (deltas_within low high event (slice (j + 1) b l))

      pub list-room : at + length whole ≤ length was → p + length (g (deltas_within low high event (get_or l j 0 ∷ []))) ≤ length out
      list-room i = storing-room s (g (deltas_within low high event (get_or l j 0 ∷ []))) (g (deltas_within low high event (slice (j + 1) b l))) left i

      pub list_on : (now : List B) (q : ℕ) → now ≡ sets out p (g (deltas_within low high event (get_or l j 0 ∷ []))) → q ≡ p + length (g (deltas_within low high event (get_or l j 0 ∷ [])))
          → Storing was at whole now q (g (deltas_within low high event (slice (j + 1) b l)))
      list_on now q d e = storing-on s (g (deltas_within low high event (get_or l j 0 ∷ []))) (g (deltas_within low high event (slice (j + 1) b l))) left now q d e

-- ── the slots of a section ───────────────────────────────────────────────────────────────────

module _ (K : ℕ) {B : Type 0} (g : List ℤ → List B) (none : g [] ≡ []) (append : (xs ys : List ℤ) → g (xs ++ ys) ≡ g xs ++ g ys) {was : List B} {at : ℕ} where
  module _ {whole out : List B} {p : ℕ} (low high first from n q : ℕ) (offsets targets : List ℕ)
      (s : Storing was at whole out p (g (joined (deltas_from K first q (drop q (rows_within K low high from n offsets targets)))))) (i : K * (from + n) < length offsets) where
    over-all : K * n ≤ q → g (joined (deltas_from K first q (drop q (rows_within K low high from n offsets targets)))) ≡ []
    over-all h = ap g (deltas-over K low high from n offsets targets i q first h) ∙ none

    pub slots-done : K * n ≤ q → out ≡ sets was at whole
    slots-done h = stored-all s (over-all h)

    pub slots_next : K * n ≤ q → p ≡ at + length whole
    slots_next h = stored_next s (over-all h)

    module _ (h : q < K * n) where
      left-all : g (joined (deltas_from K first q (drop q (rows_within K low high from n offsets targets))))
          ≡ g (deltas_within low high (first + q / K) (get_or (cut offsets targets) (K * from + q) []))
          ++ g (joined (deltas_from K first (q + 1) (drop (q + 1) (rows_within K low high from n offsets targets))))
      left-all = ap g (deltas-left K low high from n offsets targets i q first h) ∙ append _ _

      pub slots-room : at + length whole ≤ length was → p + length (g (deltas_within low high (first + q / K) (get_or (cut offsets targets) (K * from + q) []))) ≤ length out
      slots-room k =
          storing-room s (g (deltas_within low high (first + q / K) (get_or (cut offsets targets) (K * from + q) [])))
          (g (joined (deltas_from K first (q + 1) (drop (q + 1) (rows_within K low high from n offsets targets))))) left-all k

      pub slots-on : (now : List B) (r : ℕ) → now ≡ sets out p (g (deltas_within low high (first + q / K) (get_or (cut offsets targets) (K * from + q) [])))
          → r ≡ p + length (g (deltas_within low high (first + q / K) (get_or (cut offsets targets) (K * from + q) [])))
          → Storing was at whole now r (g (joined (deltas_from K first (q + 1) (drop (q + 1) (rows_within K low high from n offsets targets)))))
      slots-on now r d e =
          storing-on s (g (deltas_within low high (first + q / K) (get_or (cut offsets targets) (K * from + q) [])))
          (g (joined (deltas_from K first (q + 1) (drop (q + 1) (rows_within K low high from n offsets targets))))) left-all now r d e

-- ── where the lists start ────────────────────────────────────────────────────────────────────

module _ (K low high from n : ℕ) (offsets targets : List ℕ) (i : K * (from + n) < length offsets) (q a : ℕ) where
  pub starts-over : K * n ≤ q → starts a (drop q (rows_within K low high from n offsets targets)) ≡ a ∷ []
  unfolding starts
  starts-over h = rw (section-over K low high from n offsets targets i q h)

  pub count-over : K * n ≤ q → length (joined (drop q (rows_within K low high from n offsets targets))) ≡ 0
  unfolding joined
  count-over h = rw (section-over K low high from n offsets targets i q h)

  module _ (h : q < K * n) where
    pub starts-left : starts a (drop q (rows_within K low high from n offsets targets))
        ≡ a ∷ starts (a + length (filter (in_file low high) (get_or (cut offsets targets) (K * from + q) []))) (drop (q + 1) (rows_within K low high from n offsets targets))
    unfolding starts
    starts-left = rw (section-left K low high from n offsets targets i q h)

    pub count_left : length (joined (drop q (rows_within K low high from n offsets targets)))
        ≡ length (filter (in_file low high) (get_or (cut offsets targets) (K * from + q) [])) + length (joined (drop (q + 1) (rows_within K low high from n offsets targets)))
    unfolding joined
    count_left =
        rw (section-left K low high from n offsets targets i q h)
        (length-append (filter (in_file low high) (get_or (cut offsets targets) (K * from + q) [])) (joined (drop (q + 1) (rows_within K low high from n offsets targets))))
