-- Ranges in a table: three numbers each, one after the other.
use mathlib.Core.Path.{◌≡◌, refl, sym, ◌∙◌, ap}
use mathlib.Core.List.{List, [], ◌∷◌, ◌++◌, append_assoc}
use Prim.Native.Nat.{ℕ, zero, suc, ◌≤◌, ◌+◌, ◌*◌}
use native.Mathlib.Omega.{arith}
use lib.ListN.{length, drop, take-append-drop}
use lib.Seq.{drop-drop, get_or-drop}
use Rattle.lists.specs.Lists.{flat, part}
use Rattle.cover.specs.Chains.{Range}
use Rattle.archive_bytes.specs.Bytes.{several, Wide}
use Rattle.archive.specs.Encode.{column_bytes, range_bytes}
use Rattle.run_section.specs.Tables.{field}
use Rattle.run_section.specs.Covers.{words}
use Rattle.run_records.specs.Stored.{range_in}
use Rattle.run_records.specs.Narrow.{RangeTable}

range-words : (n : ℕ) (t : List ℕ) → flat words (several 3 range_in n t) ≡ several 1 (field 0) (3 * n) t
unfolding several
range-words zero t = refl
range-words (suc n) t = let e : 3 * suc n ≡ suc (suc (suc (3 * n))) = omega arith in rw (e, range-words n (drop 3 t)) (simp (drop-drop, get_or-drop))

words-bytes : (rs : List Range) → flat range_bytes rs ≡ column_bytes 4 (flat words rs)
unfolding range_bytes
words-bytes [] = refl
words-bytes (r ∷ rs) = rw (words-bytes rs) (simp append_assoc)

-- the bytes of n ranges are those of their numbers
pub range-bytes : (n : ℕ) (t : List ℕ) → flat range_bytes (several 3 range_in n t) ≡ column_bytes 4 (several 1 (field 0) (3 * n) t)
range-bytes n t = words-bytes (several 3 range_in n t) ∙ ap (column_bytes 4) (range-words n t)

-- ── ranges that were written into a table ────────────────────────────────────────────────────

ranges-back : (rs : List Range) (rest : List ℕ) → several 3 range_in (length rs) (flat words rs ++ rest) ≡ rs
unfolding several
ranges-back [] rest = refl
ranges-back (r ∷ rs) rest = ap (λ l. r ∷ l) (ranges-back rs rest)

-- k ranges whose numbers stand in a table from record p on
module _ (rs : List Range) (p k : ℕ) (table : List ℕ) (e : flat words rs ≡ part (3 * p) (3 * k) table) (h : length rs ≡ k) where
  pub ranges-are : several 3 range_in k (drop (p * 3) table) ≡ rs
  unfolding part
  ranges-are =
      let c : p * 3 ≡ 3 * p = omega arith in
      let d : drop (3 * p) table ≡ flat words rs ++ drop (3 * k) (drop (3 * p) table) =
      sym (take-append-drop (3 * k) (drop (3 * p) table)) ∙ ap (λ l. l ++ drop (3 * k) (drop (3 * p) table)) (sym e) in
      rw (c, d, ← h) (ranges-back rs (drop (3 * length rs) (drop (3 * p) table)))

  pub range-table : (p + k) * 3 ≤ length table → Wide 4 (flat words rs) → RangeTable k (p * 3) table
  range-table b w = record {
    numbers = record { within = omega arith; there = omega arith; narrow = rw (← range-words k (drop (p * 3) table), ranges-are) w };
  }
