-- Columns of a table, 4 bytes for each number: one turn of each loop that stores one, and its end.
use mathlib.Core.Path.{◌≡◌}
use mathlib.Core.List.{List}
use Prim.Native.Nat.{ℕ, suc, ◌≤◌, ◌<◌, ◌+◌, ◌-◌, ◌*◌, ◌^◌}
use native.Mathlib.Nat.{suc-mul, sub-zero}
use native.Mathlib.Omega.{arith}
use lib.ListN.{length, get_or, drop}
use lib.Seq.{sets, get_or-drop}
use mir.Syntax.{w64}
use mir.Val.{Fits}
use Rattle.lists.proofs.Slices.{sets-append}
use Rattle.cover.specs.Cover.{wrapping_less, differences}
use Rattle.archive_bytes.specs.Bytes.{bytes_of, several}
use Rattle.archive_bytes.proofs.Numbers.{length-bytes_of}
use Rattle.archive_bytes.proofs.Several.{several-none, several-cons}
use Rattle.archive.specs.Encode.{column_bytes}
use Rattle.run_section.specs.Tables.{field}
use Rattle.run_records.specs.Narrow.{HalfColumn}
use Rattle.run_records.proofs.Turns.{all-stored, one-stored, narrow-here, narrow-on}

pub column-starts : (w j n q : ℕ) (table : List ℕ) → HalfColumn w j n q table → HalfColumn w j (n - 0) q table
column-starts w j n q table s = rw sub-zero s

module _ (w j n i q : ℕ) (table : List ℕ) (s : HalfColumn w j (n - i) q table) (h : i < n) where
  one_more : (n - i) * w ≡ (n - (i + 1)) * w + w
  one_more = let e : n - i ≡ suc (n - (i + 1)) = omega arith in rw e (suc-mul (n - (i + 1)) w)

  record-there : q + w ≤ length table
  record-there = omega (arith, s.there, one_more)

  pub number-there : q + j < length table
  number-there = omega (arith, s.within, record-there)

  pub place-fits : length table * 8 < 2 ^ 63 → Fits w64 (q + j)
  place-fits b = record { fits = omega (arith, number-there) }

  pub byte_fits : length table * 8 < 2 ^ 63 → Fits w64 ((q + j) * 8)
  byte_fits b = record { fits = omega (arith, number-there) }

  pub next_fits : length table * 8 < 2 ^ 63 → Fits w64 (q + w)
  next_fits b = record { fits = omega (arith, record-there) }

  pub number_small : get_or table (q + j) 0 < 2 ^ 32
  number_small = narrow-here w 4 j n i table q s.narrow h

  pub column-on : HalfColumn w j (n - (i + 1)) (q + w) table
  column-on = record { within = s.within; there = omega (arith, s.there, one_more); narrow = narrow-on w 4 j n i table q s.narrow h }

module _ {t : List ℕ} (w j n i : ℕ) (table : List ℕ) (q p : ℕ) (out : List ℕ) where
  module _ (e : t ≡ sets out p (column_bytes 4 (several w (field j) (n - i) (drop q table)))) where
    pub halves-done : n ≤ i → out ≡ t
    halves-done = all-stored w (field j) (bytes_of 4) 4 (length-bytes_of 4) n i table q p out e

    pub half-next : {k : List ℕ} → i < n → k ≡ sets out p (bytes_of 4 (get_or table (q + j) 0)) → t ≡ sets k (p + 4) (column_bytes 4 (several w (field j) (n - (i + 1)) (drop (q + w) table)))
    half-next h d = one-stored w (field j) (bytes_of 4) 4 (length-bytes_of 4) n i table q p out e h (rw (get_or-drop q table j 0) d)

  module _ (before : ℕ) (e : t ≡ sets out p (column_bytes 4 (differences before (several w (field j) (n - i) (drop q table))))) where
    pub differences-done : n ≤ i → out ≡ t
    unfolding differences
    differences-done h = rw (e, several-none w (field j) n i table q h)

    pub difference-next : {k : List ℕ} {r : ℕ} → i < n → r ≡ wrapping_less (get_or table (q + j) 0) before → k ≡ sets out p (bytes_of 4 r)
        → t ≡ sets k (p + 4) (column_bytes 4 (differences (get_or table (q + j) 0) (several w (field j) (n - (i + 1)) (drop (q + w) table))))
    unfolding differences
    difference-next {r = r} h c d = rw (e, several-cons w (field j) n i table q h, get_or-drop q table j 0, sets-append, ← c, length-bytes_of 4 r, d)
