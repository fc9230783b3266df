-- Labels in row order: a chain's last seq by its last place among the keys, and one turn over the rows.
use mathlib.Core.Path.{◌≡◌, refl, sym, ◌∙◌}
use mathlib.Core.Bool.{Bool, true, false, cond, not, ◌&&◌}
use mathlib.Core.List.{List}
use mathlib.Core.Option.{Option, none, some}
use Prim.Native.Nat.{ℕ, zero, suc, ◌+◌, ◌-◌, ◌≤◌, ◌<◌}
use native.Mathlib.Numerals.{add-one}
use native.Mathlib.Omega.{arith}
use lib.Dec.{eqb, ltb}
use lib.ListN.{length, get_or, drop, set, replicate, drop_of_length-le}
use lib.Seq.{drop-cons, take-suc, take-suc-set}
use borrow.Author.Tests.{not-true, not-false}
use Rattle.lists.proofs.Slices.{take_none}
use Rattle.arrays.specs.table.Table.{last_place, Table}
use Rattle.arrays.proofs.table.Chains.{same-places, none-zeros}
use Rattle.columns.specs.Reading.{labels_of}
use Rattle.columns.specs.Building.{follows, last_seq, seqs_rise}
use Rattle.columns_rules.specs.seqs.Earlier.{earlier_labels, Held}

-- ── the last seq of a chain ──────────────────────────────────────────────────────────────────

-- the seq of a row
abbrev seq_at : List ℕ → ℕ → Option ℕ
seq_at seqs zero = none
seq_at seqs (suc j) = some (get_or seqs j 0)

last-seq : (chains seqs : List ℕ) (n x : ℕ) → last_seq x (earlier_labels chains seqs n) ≡ seq_at seqs (last_place chains n x)
unfolding last_seq earlier_labels last_place
last-seq chains seqs zero x = refl
last-seq chains seqs (suc i) x = go (eqb (get_or chains i 0) x) (last-seq chains seqs i x)
  where
    go : (b : Bool) → last_seq x (earlier_labels chains seqs i) ≡ seq_at seqs (last_place chains i x)
        → cond b (some (get_or seqs i 0)) (last_seq x (earlier_labels chains seqs i)) ≡ seq_at seqs (cond b (suc i) (last_place chains i x))
    go true e = refl
    go false e = e

module _ (chains seqs keys links heads : List ℕ) (n seq chain place : ℕ) (r : Held chains keys links heads n) (h : n < length chains)
    (c : chain ≡ get_or chains n 0) (e : place ≡ last_place keys n chain) where
  seq-is : last_seq (get_or chains n 0) (earlier_labels chains seqs n) ≡ seq_at seqs place
  seq-is = rw (last-seq chains seqs n (get_or chains n 0), ← same-places keys chains n (get_or chains n 0) r.table.upto (omega arith) r.same, ← c, e)

  pub none_before : place ≡ 0 → true ≡ follows seq (last_seq (get_or chains n 0) (earlier_labels chains seqs n))
  none_before z = rw (seq-is, z)

  pub one-before : (place ≡ 0 → ⊥) → ltb (get_or seqs (place - 1) 0) seq ≡ follows seq (last_seq (get_or chains n 0) (earlier_labels chains seqs n))
  one-before z = rw seq-is (at place z)
    where
      at : (k : ℕ) → (k ≡ 0 → ⊥) → ltb (get_or seqs (k - 1) 0) seq ≡ follows seq (seq_at seqs k)
      at zero q = absurd (q refl)
      at (suc j) q = let w : suc j - 1 ≡ j = omega arith in rw w

-- ── row by row ───────────────────────────────────────────────────────────────────────────────

pub table_of : (chains keys links heads : List ℕ) (n : ℕ) → Held chains keys links heads n → Table keys links heads n
table_of chains keys links heads n r = r.table

-- one chain more is a key
pub one_more : (chains keys links heads keys' links' heads' : List ℕ) (n chain : ℕ) → Held chains keys links heads n → n < length chains
    → length chains ≤ length keys → chain ≡ get_or chains n 0 → Table keys' links' heads' (n + 1) → keys' ≡ set keys n chain
    → Held chains keys' links' heads' (n + 1)
one_more chains keys links heads keys' links' heads' n chain r h k c t g =
    record { table = t; same = rw (g, add-one, take-suc-set keys n chain (omega arith), take-suc chains n 0 h, r.same, c) }

pub none-held : (chains : List ℕ) (c b : ℕ) → 0 < b → Held chains (replicate c 0) (replicate c 0) (replicate b 0) 0
none-held chains c b h = record { table = none-zeros c b h; same = take_none (replicate c 0) ∙ sym (take_none chains) }

module _ {t : Bool} (chains seqs : List ℕ) (i : ℕ) (e : t ≡ seqs_rise (earlier_labels chains seqs i) (labels_of (drop i chains) (drop i seqs))) where
  pub seqs-done : length chains ≤ i → true ≡ t
  unfolding seqs_rise labels_of
  seqs-done h = rw (e, drop_of_length-le chains {i = i} h)

  module _ (l : length chains ≡ length seqs) (h : i < length chains) {r : Bool}
      (k : r ≡ follows (get_or seqs i 0) (last_seq (get_or chains i 0) (earlier_labels chains seqs i))) where
    here : t ≡ (r && seqs_rise (earlier_labels chains seqs (suc i)) (labels_of (drop (suc i) chains) (drop (suc i) seqs)))
    unfolding seqs_rise labels_of earlier_labels
    here = rw (e, drop-cons chains i 0, drop-cons seqs i 0 (omega arith), ← k)

    pub seq-falls : not r ≡ true → false ≡ t
    seq-falls q = rw (here, not-true r q)

    pub seqs-on : not r ≡ false → t ≡ seqs_rise (earlier_labels chains seqs (i + 1)) (labels_of (drop (i + 1) chains) (drop (i + 1) seqs))
    seqs-on q = rw (here, not-false r q, add-one)
