-- How many numbers of some rows' lists are in a range: those of the part of the column where the lists stand together.
use mathlib.Core.Path.{◌≡◌, refl, sym, ap, ◌∙◌}
use mathlib.Core.Bool.{true}
use mathlib.Core.List.{List}
use Prim.Native.Nat.{ℕ, zero, suc, ◌+◌, ◌-◌, ◌*◌, ◌≤◌, ◌<◌}
use native.Mathlib.Omega.{arith}
use lib.ListN.{length, get_or}
use lib.Seq.{slice}
use Rattle.lists.specs.Lists.{joined, filter, part}
use Rattle.columns.specs.Limits.{kinds, max_numbers}
use Rattle.columns.proofs.Served.{kinds-served}
use Rattle.columns.specs.EdgeSet.{from_to, offsets_form, cut, set_of}
use Rattle.columns.specs.Building.{in_file, rows_within}
use Rattle.columns.proofs.Offsets.{form-climbs, form-length, starts-at, ordered, inside}
use Rattle.cleaning.proofs.Within.{count-within}
use Rattle.run_section.specs.declared.Counts.{Counts}
use Rattle.run_section.specs.Files.{sets_over}
use Rattle.run_section.specs.Sizes.{EdgesOf}
use Rattle.run_section.proofs.Pieces.{joined-piece}

module _ (rows a b : ℕ) (offsets targets : List ℕ) (form : offsets_form kinds rows (length targets) offsets ≡ true) (rises : a ≤ b) (there : b ≤ rows) where
  pub offset-there : 2 * a < length offsets
  offset-there = omega (arith, form-length kinds rows (length targets) offsets form)

  pub last-there : 2 * b < length offsets
  last-there = omega (arith, form-length kinds rows (length targets) offsets form)

  climb : from_to 0 (length targets) offsets ≡ true
  climb = form-climbs kinds rows (length targets) offsets form

  climbs : (i d : ℕ) → i + d < length offsets → get_or offsets i 0 ≤ get_or offsets (i + d) 0
  climbs i zero h = let e : i + 0 ≡ i = omega arith in rw e (omega arith)
  climbs i (suc d) h =
      let e : i + suc d ≡ i + d + 1 = omega arith in
      rw e (omega (arith, climbs i d (omega arith), ordered (length targets) offsets climb (i + d) (omega arith) (get_or offsets (i + d) 0) (get_or offsets (i + d + 1) 0) refl refl))

  up-to-all : (k : ℕ) → k < length offsets → get_or offsets k 0 ≤ length targets
  up-to-all zero h = omega (arith, starts-at (length targets) offsets climb)
  up-to-all (suc k) h =
      let e : suc k ≡ k + 1 = omega arith in
      rw e (inside (length targets) offsets climb k (omega arith) (get_or offsets k 0) (get_or offsets (k + 1) 0) refl refl)

  module _ (from to : ℕ) (f : from ≡ get_or offsets (2 * a) 0) (t : to ≡ get_or offsets (2 * b) 0) where
    piece : joined (part (2 * a) (2 * (b - a)) (cut offsets targets)) ≡ slice from to targets
    piece =
        let e : 2 * a + 2 * (b - a) ≡ 2 * b = omega arith in
        joined-piece offsets targets (form-climbs kinds rows (length targets) offsets form) (2 * a) (2 * (b - a)) (omega (arith, last-there))
        ∙ rw (e, ← f, ← t)

    pub rows_rise : from ≤ to
    rows_rise = let e : 2 * a + 2 * (b - a) ≡ 2 * b = omega arith in omega (arith, f, t, ap (λ k. get_or offsets k 0) e, climbs (2 * a) (2 * (b - a)) (omega (arith, last-there)))

    pub rows_end : to ≤ length targets
    rows_end = omega (arith, t, up-to-all (2 * b) last-there)

    pub rows_counted : {r : ℕ} (low high : ℕ) → r ≡ length (filter (in_file low high) (slice from to targets))
        → r ≡ length (joined (rows_within kinds low high a (b - a) offsets targets))
    unfolding set_of
    rows_counted low high q =
        q ∙ ap (λ l. length (filter (in_file low high) l)) (sym piece) ∙ sym (count-within kinds kinds-served low high 0 (part (2 * a) (2 * (b - a)) (cut offsets targets)))

    pub rows_few : {r : ℕ} → r ≤ to - from → length targets ≤ max_numbers → r ≤ max_numbers
    rows_few q k = omega (arith, rows_end)

-- ── the sets of a section ────────────────────────────────────────────────────────────────────

pub edges-counted : (z : Counts) (a b : ℕ) (offsets targets starts kids : List ℕ) {f r i : ℕ}
    → f ≡ length (joined (rows_within kinds 0 (z.start + z.rows) a (b - a) offsets targets)) → f ≤ max_numbers
    → r ≡ length (joined (rows_within kinds 0 (z.start + b) a (b - a) starts kids)) → r ≤ max_numbers
    → i ≡ length (joined (rows_within kinds (z.start + b) (z.start + z.rows) a (b - a) starts kids)) → i ≤ max_numbers
    → EdgesOf (sets_over z a b offsets targets starts kids) (record { forward = f; reverse = r; inbound = i })
unfolding sets_over set_of
edges-counted z a b offsets targets starts kids f k r l i m =
    record { forward_is = f; reverse_is = r; inbound_is = i; few_forward = k; few_reverse = l; few_inbound = m }
