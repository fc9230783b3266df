-- A section's columns written: one turn over its slots, and their end.
use mathlib.Core.Path.{◌≡◌, refl}
use mathlib.Core.Bool.{true}
use mathlib.Core.List.{List, [], ◌∷◌}
use Prim.Native.Nat.{ℕ, ◌+◌, ◌*◌, ◌/◌, ◌≤◌, ◌<◌}
use native.Mathlib.Omega.{arith}
use lib.IntN.{ℤ}
use lib.ListN.{length, get_or, set, drop}
use lib.Seq.{sets}
use Rattle.columns.specs.Limits.{kinds}
use Rattle.lists.specs.Lists.{joined, starts}
use Rattle.lists.proofs.Storing.{Storing, stored-all, storing-on}
use Rattle.columns.specs.EdgeSet.{from_to, cut, deltas_from, set_of}
use Rattle.columns.specs.Building.{rows_within, deltas_within}
use Rattle.columns.proofs.ReadBack.{set-count}
use Rattle.columns.proofs.Within.{section-few, deltas-length}
use Rattle.columns.proofs.Sections.{starts-over, starts-left, slots-done, slots_next, slots-room}

module _ (low high first from n : ℕ) (offsets targets : List ℕ) (i : 2 * (from + n) < length offsets) where
  -- ── where the lists start ──────────────────────────────────────────────────────────────────

  module _ {was out : List ℕ} (q p : ℕ) (s : Storing was 0 (starts 0 (rows_within kinds low high from n offsets targets)) out q
      (starts p (drop q (rows_within kinds low high from n offsets targets)))) where
    pub start-on : q < 2 * n → (r : ℕ) → r ≡ p + length (deltas_within low high (first + q / 2) (get_or (cut offsets targets) (2 * from + q) []))
        → Storing was 0 (starts 0 (rows_within kinds low high from n offsets targets)) (set out q p) (q + 1) (starts r (drop (q + 1) (rows_within kinds low high from n offsets targets)))
    start-on h r e =
        rw (e, deltas-length low high (first + q / 2) (get_or (cut offsets targets) (2 * from + q) []))
        (storing-on s (p ∷ []) _ (starts-left kinds low high from n offsets targets i q p h) (set out q p) (q + 1) refl refl)

    pub starts-whole : 2 * n ≤ q → set out q p ≡ sets was 0 (set_of kinds first (rows_within kinds low high from n offsets targets)).offsets
    unfolding set_of
    starts-whole h = stored-all (storing-on s (p ∷ []) [] (starts-over kinds low high from n offsets targets i q p h) (set out q p) (q + 1) refl refl) refl

  -- ── deltas ─────────────────────────────────────────────────────────────────────────────────

  pub deltas-few : from_to 0 (length targets) offsets ≡ true → length (joined (deltas_from kinds first 0 (rows_within kinds low high from n offsets targets))) ≤ length targets
  unfolding set_of
  deltas-few c = omega (arith, set-count kinds first (rows_within kinds low high from n offsets targets), section-few kinds low high from n offsets targets c)

  module _ {was out : List ℤ} {p : ℕ} (q : ℕ)
      (s : Storing was 0 (joined (deltas_from kinds first 0 (rows_within kinds low high from n offsets targets))) out p
      (joined (deltas_from kinds first q (drop q (rows_within kinds low high from n offsets targets))))) where
    pub list-in : from_to 0 (length targets) offsets ≡ true → length targets ≤ length was → q < 2 * n
        → p + length (deltas_within low high (first + q / 2) (get_or (cut offsets targets) (2 * from + q) [])) ≤ length out
    list-in c k h = slots-room kinds (λ ds. ds) refl (λ xs ys. refl) low high first from n q offsets targets s i h (omega (arith, deltas-few c))

    pub deltas-whole : 2 * n ≤ q → out ≡ sets was 0 (set_of kinds first (rows_within kinds low high from n offsets targets)).deltas
    unfolding set_of
    deltas-whole h = slots-done kinds (λ ds. ds) refl (λ xs ys. refl) low high first from n q offsets targets s i h

    pub count-whole : 2 * n ≤ q → p ≡ (set_of kinds first (rows_within kinds low high from n offsets targets)).count
    unfolding set_of
    count-whole h =
        omega (arith, slots_next kinds (λ ds. ds) refl (λ xs ys. refl) low high first from n q offsets targets s i h, set-count kinds first (rows_within kinds low high from n offsets targets))
