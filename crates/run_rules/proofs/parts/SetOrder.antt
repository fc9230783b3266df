-- The rules on sets of edges: columns loaded from bytes, and one set after another.
use Rattle.std.specs.Prelude.{Err, Ok, Result}
use mathlib.Core.Path.{◌≡◌, sym}
use mathlib.Core.List.{List, map}
use Prim.Native.Nat.{ℕ, ◌+◌, ◌*◌, ◌≤◌}
use native.Mathlib.Omega.{arith}
use lib.IntN.{ℤ}
use lib.ListN.{length, take, length-map}
use lib.Seq.{sets, length-sets, length-take-le}
use Rattle.columns.specs.Limits.{kinds}
use Rattle.lists.proofs.Slices.{take-sets}
use Rattle.columns.specs.EdgeSet.{EdgeSet}
use Rattle.columns.specs.Answers.{columns_of, ruling}
use Rattle.columns.specs.Reading.{set_rules}
use Rattle.columns.specs.declared.refusal.Refusal.{Refusal}
use Rattle.archive_bytes.specs.Bytes.{column, signed_of}
use Rattle.archive.proofs.Back.{length-several}
use Rattle.archive_read.specs.bodies.View.{set_in}
use Rattle.columns.proofs.Told.{stops-here, goes_on}
use Rattle.run_rules.specs.parts.Back.{sets_rules, later_rules}

-- ── a column written to the front of an array ────────────────────────────────────────────────

module _ (b : List ℕ) (rows p n : ℕ) (os₀ : List ℕ) (ds₀ : List ℤ) {os : List ℕ} {ds : List ℤ} (e : os ≡ sets os₀ 0 (column 8 (2 * rows + 1) b (p + 4)))
    (f : ds ≡ sets ds₀ 0 (map signed_of (column 8 n b (p + 4 + (2 * rows + 1) * 8)))) (u : length os₀ ≡ 2049) (v : length ds₀ ≡ 4096) where
  pub offsets-long : length os ≡ 2049
  offsets-long = rw (e, length-sets) u

  pub deltas-long : length ds ≡ 4096
  deltas-long = rw (f, length-sets) v

  pub set-loaded : rows ≤ 1024 → n ≤ 4096 → columns_of n (take (2 * rows + 1) os) (take n ds) ≡ set_in b rows p n
  unfolding set_in
  set-loaded h k =
      let x : take (2 * rows + 1) (sets os₀ 0 (column 8 (2 * rows + 1) b (p + 4))) ≡ column 8 (2 * rows + 1) b (p + 4)
      = take-sets os₀ (column 8 (2 * rows + 1) b (p + 4)) (2 * rows + 1) (length-several _ _ _ _) (omega arith) in
      let y : take n (sets ds₀ 0 (map signed_of (column 8 n b (p + 4 + (2 * rows + 1) * 8)))) ≡ map signed_of (column 8 n b (p + 4 + (2 * rows + 1) * 8))
      = take-sets ds₀ (map signed_of (column 8 n b (p + 4 + (2 * rows + 1) * 8))) n (simp (length-map, length-several)) (omega arith) in
      rw (e, f, x, y)

module _ (rows n : ℕ) (h : rows ≤ 1024) (k : n ≤ 4096) where
  pub offsets-count : (os : List ℕ) → length os ≡ 2049 → 2 * rows + 1 ≡ length (take (2 * rows + 1) os)
  offsets-count os u = sym (length-take-le (2 * rows + 1) os (omega arith))

  pub deltas-count : (ds : List ℤ) → length ds ≡ 4096 → n ≡ length (take n ds)
  deltas-count ds v = sym (length-take-le n ds (omega arith))

-- the rules of the columns that were read are those of the set
pub rules-loaded : (set first rows end : ℕ) (y x : EdgeSet) {r : Result (Unit {0}) Refusal} → y ≡ x
    → r ≡ ruling (set_rules kinds set first rows end y) → r ≡ ruling (set_rules kinds set first rows end x)
rules-loaded set first rows end y x e g = rw (← e) g

-- ── what is answered of a set ────────────────────────────────────────────────────────────────

module _ (first rows end : ℕ) (r i : EdgeSet) {x : Result (Unit {0}) Refusal} (e : x ≡ ruling (set_rules kinds 1 first rows end r)) where
  pub reverse-bad : {y : Refusal} → x ≡ Err y → Err y ≡ ruling (later_rules first rows end r i)
  unfolding later_rules
  reverse-bad {y} g = stops-here (set_rules kinds 1 first rows end r) (set_rules kinds 2 first rows end i) e y g

  pub then-inbound : {s : Result (Unit {0}) Refusal} → x ≡ Ok tt → s ≡ ruling (set_rules kinds 2 first rows end i) → s ≡ ruling (later_rules first rows end r i)
  unfolding later_rules
  then-inbound g k = goes_on (set_rules kinds 1 first rows end r) (set_rules kinds 2 first rows end i) e g k

module _ (first rows end : ℕ) (f r i : EdgeSet) {x : Result (Unit {0}) Refusal} (e : x ≡ ruling (set_rules kinds 0 first rows end f)) where
  pub forward-bad : {y : Refusal} → x ≡ Err y → Err y ≡ ruling (sets_rules first rows end f r i)
  unfolding sets_rules
  forward-bad {y} g = stops-here (set_rules kinds 0 first rows end f) (later_rules first rows end r i) e y g

  pub then-later : {s : Result (Unit {0}) Refusal} → x ≡ Ok tt → s ≡ ruling (later_rules first rows end r i) → s ≡ ruling (sets_rules first rows end f r i)
  unfolding sets_rules
  then-later g k = goes_on (set_rules kinds 0 first rows end f) (later_rules first rows end r i) e g k
