-- The deltas of a list's numbers from one up to another, in reach of signed 64 bits and written.
use mathlib.Core.Path.{◌≡◌, sym, ◌∙◌}
use mathlib.Core.Bool.{Bool, true, false, not}
use mathlib.Core.List.{List, [], ◌∷◌, ◌++◌}
use Prim.Native.Nat.{ℕ, ◌+◌, ◌*◌, ◌/◌, ◌≤◌, ◌<◌}
use native.Mathlib.Omega.{arith}
use lib.IntN.{ℤ}
use lib.ListN.{length, get_or, set, drop}
use lib.Seq.{slice, sets}
use mir.Syntax.{w64}
use mir.Val.{to_z, of_z}
use mir.ValLaws.{to_z-of_z}
use borrow.Author.Tests.{not-true, not-false}
use Rattle.columns.specs.Limits.{kinds}
use Rattle.lists.specs.Lists.{all, joined}
use Rattle.lists.proofs.Tests.{both, all_append}
use Rattle.columns.specs.EdgeSet.{cut, delta_of, deltas_from}
use Rattle.columns.specs.Building.{in_file, fits63, deltas_fit, rows_within, deltas_within}
use Rattle.columns.proofs.Offsets.{slot-cut}
use Rattle.columns.proofs.Within.{delta-in, delta-out, slice-left, deltas-left}
use Rattle.columns_sets.proofs.sets.SpanWrites.{signed}

-- ── one number ───────────────────────────────────────────────────────────────────────────────

module _ (event t low high : ℕ) {r : Bool} (e : r ≡ in_file low high t) where
  module _ (g : not r ≡ true) where
    nothing : deltas_within low high event (t ∷ []) ≡ []
    nothing = delta-out low high event t (sym (not-true r g) ∙ e)

    pub passed : (at : ℕ) (out : List ℤ) → out ≡ sets out at (deltas_within low high event (t ∷ []))
    passed at out = rw nothing

    pub passed-next : (at : ℕ) → at ≡ at + length (deltas_within low high event (t ∷ []))
    passed-next at = rw nothing (omega arith)

  module _ (g : not r ≡ false) where
    number : deltas_within low high event (t ∷ []) ≡ delta_of event t ∷ []
    number = delta-in low high event t (sym (not-false r g) ∙ e)

    pub one-next : (at : ℕ) → at + 1 ≡ at + length (deltas_within low high event (t ∷ []))
    one-next at = rw number

    pub one-room : (at : ℕ) (out : List ℤ) → at + length (deltas_within low high event (t ∷ [])) ≤ length out → at < length out
    one-room at out h = omega (arith, one-next at)

    module _ (h : all fits63 (deltas_within low high event (t ∷ [])) ≡ true) where
      pub one-fits : fits63 (delta_of event t) ≡ true
      unfolding all
      one-fits = (both (fits63 (delta_of event t)) true (rw number at h)).0

      pub one_written : (at : ℕ) (out : List ℤ) (v : ℤ) → v ≡ delta_of event t → set out at (to_z w64 (of_z w64 v)) ≡ sets out at (deltas_within low high event (t ∷ []))
      one_written at out v d = rw (number, d, to_z-of_z w64 (delta_of event t) (signed (delta_of event t) one-fits))

-- ── in reach ─────────────────────────────────────────────────────────────────────────────────

split : (xs ys zs : List ℤ) → zs ≡ xs ++ ys → all fits63 zs ≡ true → (all fits63 xs ≡ true) × (all fits63 ys ≡ true)
split xs ys zs e h = both (all fits63 xs) (all fits63 ys) (rw (e, all_append fits63 xs ys) at h)

pub reach-begins : (low high event s j b : ℕ) (offsets targets : List ℕ) → s + 1 < length offsets → j ≡ get_or offsets s 0 → b ≡ get_or offsets (s + 1) 0
    → all fits63 (deltas_within low high event (get_or (cut offsets targets) s [])) ≡ true → all fits63 (deltas_within low high event (slice j b targets)) ≡ true
reach-begins low high event s j b offsets targets h e f g = rw (slot-cut offsets targets s j b h e f) at g

module _ (low high event j b : ℕ) (l : List ℕ) (g : all fits63 (deltas_within low high event (slice j b l)) ≡ true) (h : j < b) (k : b ≤ length l) where
  both-reach : (all fits63 (deltas_within low high event (get_or l j 0 ∷ [])) ≡ true) × (all fits63 (deltas_within low high event (slice (j + 1) b l)) ≡ true)
  both-reach = split _ _ _ (slice-left low high event j b l h k) g

  pub reach-this : all fits63 (deltas_within low high event (get_or l j 0 ∷ [])) ≡ true
  reach-this = both-reach.0

  pub reach-on : all fits63 (deltas_within low high event (slice (j + 1) b l)) ≡ true
  reach-on = both-reach.1

pub slots-reach : (low high first from n : ℕ) (offsets targets : List ℕ) → deltas_fit kinds first (rows_within kinds low high from n offsets targets) ≡ true
    → all fits63 (joined (deltas_from kinds first 0 (drop 0 (rows_within kinds low high from n offsets targets)))) ≡ true
unfolding deltas_fit
slots-reach low high first from n offsets targets h = h

module _ (low high first from n q : ℕ) (offsets targets : List ℕ) (g : all fits63 (joined (deltas_from kinds first q (drop q (rows_within kinds low high from n offsets targets)))) ≡ true)
    (i : 2 * (from + n) < length offsets) (h : q < 2 * n) where
  both-slots : (all fits63 (deltas_within low high (first + q / 2) (get_or (cut offsets targets) (2 * from + q) [])) ≡ true)
      × (all fits63 (joined (deltas_from kinds first (q + 1) (drop (q + 1) (rows_within kinds low high from n offsets targets)))) ≡ true)
  both-slots = split _ _ _ (deltas-left kinds low high from n offsets targets i q first h) g

  pub slot-reach : all fits63 (deltas_within low high (first + q / 2) (get_or (cut offsets targets) (2 * from + q) [])) ≡ true
  slot-reach = both-slots.0

  pub slots-reach-on : all fits63 (joined (deltas_from kinds first (q + 1) (drop (q + 1) (rows_within kinds low high from n offsets targets)))) ≡ true
  slots-reach-on = both-slots.1
