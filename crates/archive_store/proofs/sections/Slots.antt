-- Numbers from one up to another in a list: one turn of the loop that counts them, and of the one that stores their deltas.
use Rattle.std.proofs.Common.{◌≡◌, ℕ, ◌+◌, ◌%◌, ◌^◌, ◌<◌, ◌≤◌, Bool, true, false, not, leb, List, [], ◌∷◌, ◌++◌, map, length, get_or, ℤ, sym, refl, ap, ◌∙◌, inl, inr, append-nil, add-one, arith, w64, Fits, leb-false, leb-true}
use mathlib.Core.List.{map-append}
use lib.Seq.{slice, sets, slice-cons}
use borrow.Author.Tests.{not-true, not-false}
use Rattle.lists.specs.Lists.{filter}
use Rattle.lists.proofs.Tests.{tested}
use Rattle.lists.proofs.Flat.{flat_append}
use Rattle.lists.proofs.Slices.{slice-none}
use Rattle.columns.specs.EdgeSet.{cut, delta_of}
use Rattle.columns.specs.Building.{in_file, deltas_within}
use Rattle.columns.proofs.Deltas.{delta-down, delta-up}
use Rattle.columns.proofs.Offsets.{slot-cut}
use Rattle.columns.proofs.Within.{delta-in, delta-out}
use Rattle.archive_bytes.specs.Bytes.{bytes_of, unsigned_of}
use Rattle.archive_bytes.proofs.Numbers.{length-bytes_of}
use Rattle.archive_store.specs.sections.DeltaBytes.{delta_bytes}

-- ── counting ─────────────────────────────────────────────────────────────────────────────────

module _ {t : ℕ} (k j to low high : ℕ) (l : List ℕ) (e : t ≡ k + length (filter (in_file low high) (slice j to l))) where
  pub all-counted : to ≤ j → k ≡ t
  unfolding filter
  all-counted h = rw (e, slice-none j to l h) (omega arith)

  module _ (h : j < to) (i : to ≤ length l) {r : Bool} (f : r ≡ in_file low high (get_or l j 0)) (m : ℕ) where
    pub one-counted : r ≡ true → m ≡ k + 1 → t ≡ m + length (filter (in_file low high) (slice (j + 1) to l))
    unfolding filter
    one-counted g d = rw (e, slice-cons j to l 0, ← f, g, d, add-one j) (omega arith)

    pub one-passed : r ≡ false → m ≡ k → t ≡ m + length (filter (in_file low high) (slice (j + 1) to l))
    unfolding filter
    one-passed g d = rw (e, slice-cons j to l 0, ← f, g, d, add-one j)

module _ (offsets targets : List ℕ) (s : ℕ) (h : s + 1 < length offsets) (a b : ℕ) (e : a ≡ get_or offsets s 0) (f : b ≡ get_or offsets (s + 1) 0) (r : ℕ) where
  pub list_counted : (low high : ℕ) → r ≡ length (filter (in_file low high) (slice a b targets)) → r ≡ length (filter (in_file low high) (get_or (cut offsets targets) s []))
  list_counted low high g = rw (slot-cut offsets targets s a b h e f) g

-- ── one delta ────────────────────────────────────────────────────────────────────────────────

-- the difference modulo 2^64 is the two's complement of event minus t
wrapped : (event t v : ℕ) → event < 2 ^ 64 → t < 2 ^ 64 → v < 2 ^ 64 → (v + t) % 2 ^ 64 ≡ event → v ≡ unsigned_of (delta_of event t)
unfolding unsigned_of
wrapped event t v a b c e =
    elim (tested (leb t event)) [
      | inl g ↦ let h = leb-true t event g in rw (delta-down event t h) (omega arith)
      | inr g ↦ let h = leb-false t event g in rw (delta-up event t h) (omega arith)
    ]

pub bytes-append : (xs ys : List ℤ) → delta_bytes (xs ++ ys) ≡ delta_bytes xs ++ delta_bytes ys
unfolding delta_bytes
bytes-append xs ys = rw (map-append unsigned_of xs ys) (flat_append (bytes_of 8) (map unsigned_of xs) (map unsigned_of ys))

pub bytes-none : delta_bytes [] ≡ []
unfolding delta_bytes
bytes-none = refl

bytes_one : (d : ℤ) → delta_bytes (d ∷ []) ≡ bytes_of 8 (unsigned_of d)
unfolding delta_bytes
bytes_one d = append-nil (bytes_of 8 (unsigned_of d))

module _ (event t low high : ℕ) {r : Bool} (e : r ≡ in_file low high t) where
  module _ (g : not r ≡ true) where
    nothing : delta_bytes (deltas_within low high event (t ∷ [])) ≡ []
    nothing = ap delta_bytes (delta-out low high event t (sym (not-true r g) ∙ e)) ∙ bytes-none

    pub passed : (at : ℕ) (out : List ℕ) → out ≡ sets out at (delta_bytes (deltas_within low high event (t ∷ [])))
    passed at out = rw nothing

    pub passed-next : (at : ℕ) → at ≡ at + length (delta_bytes (deltas_within low high event (t ∷ [])))
    passed-next at = rw nothing (omega arith)

  module _ (g : not r ≡ false) where
    number : delta_bytes (deltas_within low high event (t ∷ [])) ≡ bytes_of 8 (unsigned_of (delta_of event t))
    number = ap delta_bytes (delta-in low high event t (sym (not-false r g) ∙ e)) ∙ bytes_one (delta_of event t)

    pub eight : (at : ℕ) → at + 8 ≡ at + length (delta_bytes (deltas_within low high event (t ∷ [])))
    eight at = rw (number, length-bytes_of 8 (unsigned_of (delta_of event t)))

    pub room : (at : ℕ) (out : List ℕ) → at + length (delta_bytes (deltas_within low high event (t ∷ []))) ≤ length out → at + 8 ≤ length out
    room at out h = omega (arith, eight at)

    pub stored : (at : ℕ) (out : List ℕ) (v : ℕ) {k : List ℕ} → k ≡ sets out at (bytes_of 8 v) → (v + t) % 2 ^ 64 ≡ event → Fits w64 event → Fits w64 t → Fits w64 v
        → k ≡ sets out at (delta_bytes (deltas_within low high event (t ∷ [])))
    stored at out v d f a b c = rw (number, ← wrapped event t v a.fits b.fits c.fits f) d
