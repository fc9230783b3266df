-- The labels of rows: a number of each row copied to a column, and two columns as labels.
use mathlib.Core.Path.{◌≡◌, refl, ap, ◌∙◌}
use mathlib.Core.List.{List, ◌∷◌}
use Prim.Native.Nat.{ℕ, zero, suc, ◌+◌, ◌*◌, ◌≤◌, ◌<◌}
use native.Mathlib.Numerals.{add-one}
use native.Mathlib.Omega.{arith}
use mir.Val.{Fits}
use mir.Syntax.{w32}
use lib.ListN.{length, get_or, set, take, drop}
use lib.Seq.{take-suc-set, get_or-drop}
use Rattle.columns.specs.Reading.{Label, labels_of}
use Rattle.archive_bytes.specs.Bytes.{several}
use Rattle.run_section.specs.Tables.{field}
use Rattle.run_section.specs.Covers.{Narrow, Labelled, label_here, labels_from}
use Rattle.run_section.proofs.Records.{several-snoc}

-- ── one column ───────────────────────────────────────────────────────────────────────────────

module _ (rows : List ℕ) (a i n k : ℕ) (h : i < n) where
  pub number_fits : Narrow k (a + n) rows → Fits w32 (get_or rows ((a + i) * 4 + k) 0)
  number_fits s = record { fits = s.small (a + i) (omega arith) }

  number_at : get_or (drop (i * 4) (drop (a * 4) rows)) k 0 ≡ get_or rows ((a + i) * 4 + k) 0
  number_at = get_or-drop (i * 4) (drop (a * 4) rows) k 0 ∙ get_or-drop (a * 4) rows (i * 4 + k) 0 ∙ ap (λ j. get_or rows j 0) (omega arith)

  pub column-turn : (out : List ℕ) → n ≤ 1024 → length out ≡ 1024 → take i out ≡ several 4 (field k) i (drop (a * 4) rows)
      → take (i + 1) (set out i (get_or rows ((a + i) * 4 + k) 0)) ≡ several 4 (field k) (i + 1) (drop (a * 4) rows)
  column-turn out m l e =
      rw (add-one i, take-suc-set out i (get_or rows ((a + i) * 4 + k) 0) (omega arith), several-snoc 4 (field k) i (drop (a * 4) rows), e, number_at)

module _ (rows out : List ℕ) (a i n k : ℕ) (h : i ≤ n) (g : n ≤ i) where
  pub column-done : take i out ≡ several 4 (field k) i (drop (a * 4) rows) → take n out ≡ several 4 (field k) n (drop (a * 4) rows)
  column-done e = let z : n ≡ i = omega arith in rw z e

-- ── two columns ──────────────────────────────────────────────────────────────────────────────

pairs : (n : ℕ) (t : List ℕ) → labels_of (several 4 (field 2) n t) (several 4 (field 3) n t) ≡ several 4 label_here n t
unfolding labels_of several
pairs zero t = refl
pairs (suc n) t = ap (λ (ls : List Label). label_here t ∷ ls) (pairs n (drop 4 t))

pub labels_read : (rows chains seqs : List ℕ) (a n : ℕ) → take n chains ≡ several 4 (field 2) n (drop (a * 4) rows)
    → take n seqs ≡ several 4 (field 3) n (drop (a * 4) rows) → labels_of (take n chains) (take n seqs) ≡ labels_from rows a n
unfolding labels_from
labels_read rows chains seqs a n e f = rw (e, f) (pairs n (drop (a * 4) rows))

-- ── fewer rows ───────────────────────────────────────────────────────────────────────────────

narrow-fewer : (k n m : ℕ) (rows : List ℕ) → m ≤ n → Narrow k n rows → Narrow k m rows
narrow-fewer k n m rows h s = record { small = λ i l. s.small i (omega arith) }

pub labelled-fewer : (n m : ℕ) (rows : List ℕ) → m ≤ n → Labelled n rows → Labelled m rows
labelled-fewer n m rows h l = record { chains = narrow-fewer 2 n m rows h l.chains; seqs = narrow-fewer 3 n m rows h l.seqs }
